pub mod Measure
pub mod Into
