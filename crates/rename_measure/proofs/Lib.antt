pub mod Counting
pub mod Putting
pub mod Streamed
pub mod Deleting
pub mod Moving
pub mod Foretelling
pub mod Sources
