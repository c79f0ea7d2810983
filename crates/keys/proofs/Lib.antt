pub mod Greatest
pub mod Ranks
pub mod Scanning
