pub mod Each
pub mod NamedValue
pub mod Numbers
pub mod Outcome
pub mod Refusable
