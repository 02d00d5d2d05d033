pub mod Rows
pub mod Numbers
pub mod Bits
pub mod Tokens
pub mod Classes
pub mod Printed
pub mod Names
mod Examples
