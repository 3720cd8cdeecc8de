pub mod Limits
pub mod RoundTrip
pub mod Theorems
pub mod Writing
