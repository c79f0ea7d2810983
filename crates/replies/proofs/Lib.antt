pub mod Replies
pub mod FromC
