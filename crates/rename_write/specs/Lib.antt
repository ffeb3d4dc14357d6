pub mod Stretch
pub mod Sequence
