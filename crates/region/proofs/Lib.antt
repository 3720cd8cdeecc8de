pub mod Cuts
pub mod Cutting
pub mod Gluing
pub mod Parsing
