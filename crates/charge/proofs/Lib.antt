pub mod Accepting
pub mod Charging
pub mod Settling
