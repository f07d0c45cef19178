pub mod Loading
pub mod Answers
