pub mod Record
pub mod Views
