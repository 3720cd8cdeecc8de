pub mod Balance
pub mod Views
