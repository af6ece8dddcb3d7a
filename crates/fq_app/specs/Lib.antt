pub mod Answers
pub mod Calls
pub mod Example
pub mod FilesInStep
