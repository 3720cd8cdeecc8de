pub mod Computed
pub mod OneCall
pub mod Terms
pub mod Theorems
pub mod NoneLeftOut
pub mod Judges
pub mod Witness
