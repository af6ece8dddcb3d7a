-- The thread that reads.
pub mod Filling
pub mod DealingOut
pub mod Dealt
