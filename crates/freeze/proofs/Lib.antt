pub mod AsNamed
pub mod Authorities
pub mod Freezing
pub mod Theorems
