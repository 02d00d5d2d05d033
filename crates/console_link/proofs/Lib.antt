pub mod Last_bytes
pub mod Kept
mod Examples
