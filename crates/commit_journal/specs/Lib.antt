pub mod Bodies
pub mod Stored
pub mod Journal
pub mod Uuids
pub mod Faults
pub mod Store
pub mod Zones
pub mod Replay
