pub mod Model
pub mod Moves
pub mod Progress
