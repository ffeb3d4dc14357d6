pub mod Made
pub mod Outcomes
