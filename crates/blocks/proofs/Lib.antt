pub mod Corners
pub mod Rows
