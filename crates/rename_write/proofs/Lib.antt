pub mod Items
pub mod Loops
pub mod Sequences
