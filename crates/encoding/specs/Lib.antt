pub mod Encoding
pub mod Views
