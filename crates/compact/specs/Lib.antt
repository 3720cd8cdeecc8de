pub mod Compact
pub mod Entries
pub mod Laid
pub mod Views
pub mod NamedValues
