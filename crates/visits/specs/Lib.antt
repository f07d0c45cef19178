pub mod Visits
pub mod GoingOn
