pub mod Adding
pub mod AsNamed
pub mod Theorems
pub mod Totals
