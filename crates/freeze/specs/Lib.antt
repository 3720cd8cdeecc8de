pub mod Freeze
pub mod Views
