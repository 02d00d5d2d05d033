pub mod Sums
pub mod Moments
pub mod Steps
pub mod Calls
