pub mod Script
pub mod Encoded
pub mod Wrong
