pub mod Judged
pub mod Leaves
