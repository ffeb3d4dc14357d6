pub mod Found
pub mod Place
pub mod Parts
pub mod Walk
