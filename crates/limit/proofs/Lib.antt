pub mod Rules
pub mod Taking
