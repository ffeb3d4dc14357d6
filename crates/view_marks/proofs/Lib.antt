pub mod Marked
