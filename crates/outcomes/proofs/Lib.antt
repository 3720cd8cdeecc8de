pub mod Laws
pub mod Ground
pub mod Region
pub mod Instructions
pub mod Accounts
pub mod Judge
pub mod Replay
pub mod Theorems
