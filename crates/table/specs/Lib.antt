pub mod Table
pub mod Views
