pub mod Searches
pub mod Sublists
pub mod Visibles
