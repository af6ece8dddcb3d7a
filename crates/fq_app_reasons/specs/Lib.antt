pub mod Causes
pub mod Refused
pub mod Ended
pub mod Lines
