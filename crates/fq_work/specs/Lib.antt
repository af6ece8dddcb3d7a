pub mod Replies
pub mod Doing
pub mod Waiting
pub mod Work
