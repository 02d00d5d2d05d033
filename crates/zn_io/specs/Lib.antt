pub mod Streams
pub mod Memory
pub mod Disk
pub mod MemoryDisk
pub mod MemoryDiskIsSound
pub mod FileDisk
