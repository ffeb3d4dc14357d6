pub mod Settles
pub mod Admits
pub mod Chains
pub mod Keys
pub mod OnePath
