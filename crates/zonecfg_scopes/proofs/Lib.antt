pub mod Reading
mod Examples
pub mod Steps
pub mod Branded
pub mod SameKind
pub mod InPlace
pub mod Ending
pub mod Followed
pub mod Changed
pub mod Ran
pub mod Lines
pub mod Shown
pub mod Causes
