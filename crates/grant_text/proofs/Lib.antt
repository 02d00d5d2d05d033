pub mod Same_bytes
pub mod Numbers
pub mod Pool_words
pub mod Splits
