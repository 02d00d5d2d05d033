pub mod Orders
pub mod Parts
pub mod Kept
pub mod Over
pub mod Rests
pub mod Alone
pub mod Items
mod Examples
