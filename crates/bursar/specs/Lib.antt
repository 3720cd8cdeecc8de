pub mod Run
pub mod Limits
pub mod Sentence
pub mod Judges
pub mod Example
pub mod Witness
