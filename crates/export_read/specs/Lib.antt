pub mod Lines
pub mod Commands
pub mod Reading
pub mod Saying
pub mod Names
pub mod Drafts
pub mod Begun
pub mod Halts
