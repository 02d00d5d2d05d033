pub mod Consoles
pub mod Histories
