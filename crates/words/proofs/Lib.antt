pub mod Turning
pub mod Widths
