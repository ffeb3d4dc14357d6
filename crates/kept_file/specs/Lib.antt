pub mod Kept
pub mod Acts
