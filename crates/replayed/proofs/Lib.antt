pub mod CallStep
pub mod Coming
pub mod Cutting
pub mod Example
pub mod OpeningStep
pub mod Progress
pub mod Sentence
pub mod Theorems
