pub mod Owned_lists
pub mod Firsts
pub mod Same
pub mod Owners
pub mod Asked
pub mod Decisions
pub mod Pools
