-- The definitions once more as functions that compute; proofs/ shows that each decides its definition. A reader may skip this folder.
pub mod Closure
pub mod Verdicts
pub mod Tables
pub mod Next
