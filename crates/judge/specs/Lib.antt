pub mod Judge
pub mod Views
pub mod NamedValues
