pub mod Splices
pub mod Lengths
pub mod Places
pub mod Begins
