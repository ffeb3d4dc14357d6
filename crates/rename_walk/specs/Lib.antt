pub mod Walked
pub mod Stretch
