pub mod Cases
pub mod Entries
pub mod Files
pub mod RoundTrip
pub mod Acts
pub mod Refused
