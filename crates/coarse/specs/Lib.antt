pub mod Blocks
pub mod Coarse
pub mod Eight
pub mod Promises
pub mod Starts
pub mod Examples
pub mod Wrong
