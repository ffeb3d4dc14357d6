pub mod Climbs
pub mod Passing
pub mod Merging
