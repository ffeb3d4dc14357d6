pub mod Pass
pub mod Flags
pub mod Turns
