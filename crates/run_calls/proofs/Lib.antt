pub mod Rows
pub mod Loops
pub mod Results
pub mod Demands
