pub mod Further
pub mod Numbered
