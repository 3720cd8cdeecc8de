pub mod Classes
pub mod Views
