pub mod Parts
pub mod Measures
