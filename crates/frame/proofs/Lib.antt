pub mod Frames
pub mod Theorems
