pub mod Loading
pub mod Crossing
