pub mod Table
pub mod Rows
pub mod Sets
pub mod Limit
