pub mod Keeping
pub mod Words
pub mod Steps
pub mod Windows
pub mod KeptPlaces
pub mod Sums
