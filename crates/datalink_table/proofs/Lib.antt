pub mod Same_laws
pub mod Counting
pub mod Sharing
pub mod Kept
mod Examples
