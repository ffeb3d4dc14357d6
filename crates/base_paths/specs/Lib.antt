pub mod Classes
pub mod Scan
pub mod Ancestors
pub mod Grammar
pub mod Dirs
