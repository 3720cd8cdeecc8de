pub mod Laws
pub mod Theorems
pub mod Words
