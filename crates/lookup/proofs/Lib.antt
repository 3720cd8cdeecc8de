pub mod Lookups
pub mod Theorems
