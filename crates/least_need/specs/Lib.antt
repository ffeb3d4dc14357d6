pub mod Need
pub mod Least
