pub mod Owned_laws
pub mod Firsts_laws
pub mod Same_laws
pub mod Holding
pub mod Free_numbers
pub mod Pools_laws
mod Pools_examples
