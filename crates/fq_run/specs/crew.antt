-- The threads that trim.
pub mod Workers
