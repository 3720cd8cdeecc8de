pub mod NamedValues
pub mod Steps
pub mod Theorems
