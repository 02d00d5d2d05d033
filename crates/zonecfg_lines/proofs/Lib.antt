pub mod Replying
pub mod Lasting
pub mod Denoting
