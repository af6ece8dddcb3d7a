-- The thread that writes.
pub mod Collecting
pub mod Stops
