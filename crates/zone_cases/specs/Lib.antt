-- events
pub mod Events
-- the state of all zones, one zone's world in it, what an event may change, and what it decides
pub mod State
-- processes: what their calls do
pub mod Calls
-- sessions: how a line is read, and what it does
pub mod Session
-- what the code's values stand for
pub mod Code
