pub mod NamedRecords
pub mod Tokens
