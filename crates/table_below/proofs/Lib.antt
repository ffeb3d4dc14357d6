pub mod Children
pub mod Cutting
pub mod Sums
