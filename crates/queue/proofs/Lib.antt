pub mod Changes
pub mod Queuing
pub mod Steps
pub mod Choosing
