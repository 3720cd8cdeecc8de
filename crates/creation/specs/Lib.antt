pub mod Creation
pub mod NamedValues
pub mod Views
