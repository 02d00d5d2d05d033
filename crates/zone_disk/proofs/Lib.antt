mod Append
mod Blocks
mod Formatting
mod Outcome
mod Reading
mod Right
mod Torn
mod Unique
