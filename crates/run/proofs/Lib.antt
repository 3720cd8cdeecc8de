pub mod Gathering
pub mod Laws
pub mod Pieces
pub mod Used
