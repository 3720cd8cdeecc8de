pub mod Chains
pub mod Each
pub mod Laws
pub mod Lent
pub mod Refusing
