pub mod Cases
pub mod Others
pub mod Needs
pub mod Buffers
pub mod Leasts
