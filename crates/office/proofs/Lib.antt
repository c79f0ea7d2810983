pub mod Parts
pub mod Queue
pub mod Step
pub mod Lists
pub mod Starts
pub mod Examples
pub mod Wrong
