pub mod ByInode
pub mod ByKey
pub mod Devices
pub mod Disks
pub mod Holding
pub mod Memory
pub mod MemoryDisks
pub mod States
