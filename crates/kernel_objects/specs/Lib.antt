pub mod Processes
pub mod Kernel
pub mod Shared
