-- What the code's values stand for, and what it does to them.
pub mod Queues
pub mod Job_configs
pub mod Desks
pub mod Cases
pub mod Rooms
pub mod Works
pub mod Ahead
pub mod Locals
pub mod Shareds
pub mod Recordings
