pub mod Lengths
pub mod Regular
pub mod Table
pub mod Views
