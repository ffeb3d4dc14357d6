pub mod Lents
pub mod Firsts
