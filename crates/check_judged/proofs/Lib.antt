pub mod Checked
pub mod Thens
