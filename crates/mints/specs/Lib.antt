pub mod Mints
pub mod Views
