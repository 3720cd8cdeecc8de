pub mod Example
pub mod Feeding
pub mod Printed
pub mod Replay
