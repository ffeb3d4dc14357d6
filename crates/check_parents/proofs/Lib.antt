pub mod Checked
pub mod Parents
pub mod Missing
