pub mod Cover
pub mod Ahead
