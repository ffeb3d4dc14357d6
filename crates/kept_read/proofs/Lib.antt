pub mod Turns
pub mod Sums
pub mod Frames
pub mod Answers
pub mod Cases
