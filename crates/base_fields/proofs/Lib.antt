pub mod Common
pub mod Numbers
mod Slices
pub mod Writes
pub mod Zeros
mod Words
pub mod Pieces
