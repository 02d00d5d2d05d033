pub mod Tables
pub mod Brands
pub mod Hooks
