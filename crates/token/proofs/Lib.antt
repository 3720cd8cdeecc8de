pub mod AsNamed
pub mod Counting
pub mod Theorems
pub mod Ways
