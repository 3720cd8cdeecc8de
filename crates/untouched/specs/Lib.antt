pub mod MayChange
pub mod Example
