pub mod Budgets
pub mod Cuts
pub mod Depths
pub mod Descents
pub mod Enters
pub mod Stretches
pub mod Visitings
