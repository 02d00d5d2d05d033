pub mod Names
pub mod Found
pub mod Tabled
pub mod Placed
