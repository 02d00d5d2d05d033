-- What the code's values stand for, and what is known of a case that was decided.
pub mod Lines
pub mod Rows
pub mod Doings
pub mod Consoles
pub mod Cells
pub mod Errands
pub mod Cases
pub mod Commits
pub mod Replies
