pub mod Back
pub mod Opens
pub mod Rules
pub mod Steps
pub mod Turns
pub mod Whole
