pub mod Image
pub mod Bank
pub mod Format
pub mod Read
