pub mod Held
pub mod Listing
