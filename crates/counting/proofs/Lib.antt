pub mod Sums
pub mod Counting
