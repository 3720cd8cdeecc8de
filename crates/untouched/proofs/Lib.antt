pub mod Example
pub mod SameBut
pub mod OneAction
pub mod Theorems
