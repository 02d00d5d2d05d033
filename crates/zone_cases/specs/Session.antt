-- Sessions: how a line is read, and what it does.
pub mod Lines
pub mod Commits
pub mod Listed
pub mod Logins
pub mod Typed
