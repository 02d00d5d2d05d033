pub mod Known
pub mod Patches
pub mod Replay
pub mod Crashed
pub mod Calls
pub mod Moments
