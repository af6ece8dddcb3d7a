pub mod Seats
pub mod Measure
pub mod Turns
pub mod Kept
pub mod WorkedExamples
