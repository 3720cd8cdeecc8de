pub mod Forms
pub mod Keeping
pub mod Lengths
pub mod NamedValues
pub mod Scanning
pub mod Theorems
