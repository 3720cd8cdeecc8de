pub mod Cutting
pub mod Given
pub mod Gluing
pub mod Parsing
pub mod Theorems
pub mod Views
