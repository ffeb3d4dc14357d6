pub mod Files
pub mod Verdicts
