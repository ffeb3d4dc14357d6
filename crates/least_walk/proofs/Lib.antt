pub mod Sums
mod Adding
