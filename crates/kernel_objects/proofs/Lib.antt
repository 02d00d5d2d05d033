pub mod Entries
pub mod Sharing
pub mod Kept
mod Examples
