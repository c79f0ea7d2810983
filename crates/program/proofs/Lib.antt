pub mod Rounds
pub mod Ends
pub mod Examples
pub mod Wrong
