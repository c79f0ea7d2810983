pub mod Counting
pub mod Pushes
pub mod Runs
