pub mod Tops
pub mod Lists
pub mod Ascents
pub mod Makes
pub mod Ordered
