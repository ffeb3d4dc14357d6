pub mod Place
pub mod Cut
pub mod Said
