pub mod Merges
pub mod Steps
pub mod Items
