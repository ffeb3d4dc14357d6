pub mod Trees
pub mod Steps
pub mod Told
