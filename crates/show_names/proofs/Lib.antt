pub mod Cases
pub mod Children
pub mod Bounds
pub mod Shown
pub mod Everything
