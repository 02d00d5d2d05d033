pub mod Folds
pub mod Records
pub mod Scripts
pub mod Places
