pub mod Sweeping
pub mod Spreading
