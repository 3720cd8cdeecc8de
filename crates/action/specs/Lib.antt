pub mod Action
pub mod Fields
pub mod Views
