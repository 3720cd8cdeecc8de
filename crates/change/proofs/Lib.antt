pub mod Changing
pub mod Writing
