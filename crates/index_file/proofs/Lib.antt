pub mod Escapes
pub mod Lines
pub mod Parts
pub mod Walk
pub mod OneReading
pub mod Examples
