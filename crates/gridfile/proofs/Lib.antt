pub mod Checking
pub mod Filled
