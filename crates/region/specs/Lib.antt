pub mod Region
pub mod Views
