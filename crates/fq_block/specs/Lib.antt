pub mod Packing
pub mod Blocks
