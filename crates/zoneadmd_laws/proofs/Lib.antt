pub mod Telling
pub mod Answering
pub mod Running
pub mod Trailing
pub mod Undoing
pub mod Locally
pub mod Items_laws
pub mod Moving
pub mod Fewer
pub mod Bounds
pub mod Apart
pub mod Verified
pub mod Making
pub mod Agreeing
pub mod Points
pub mod Rooms
mod Examples
pub mod Halting
