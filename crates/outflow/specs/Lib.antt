pub mod Outflow
pub mod Views
