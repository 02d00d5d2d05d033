pub mod Order
pub mod Runs
pub mod Halts
pub mod Replies
pub mod Laws
