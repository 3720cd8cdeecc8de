pub mod Framed
pub mod Views
