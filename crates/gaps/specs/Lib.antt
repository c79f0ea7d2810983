pub mod Work
pub mod Gaps
