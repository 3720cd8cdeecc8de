pub mod Key
pub mod Views
