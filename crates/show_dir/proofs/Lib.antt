pub mod Below
pub mod Verdicts
