pub mod Chains
pub mod Addresses
pub mod Front_texts
mod Examples
