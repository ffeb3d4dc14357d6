pub mod Heads
pub mod Frame
