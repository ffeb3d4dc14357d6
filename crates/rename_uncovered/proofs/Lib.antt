pub mod Parents
pub mod Covers
pub mod Passes
pub mod Belows
