pub mod Values
pub mod Flaws
