pub mod Paths
pub mod Mounts
pub mod Search
pub mod Places
pub mod Types
