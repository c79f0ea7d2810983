pub mod Touched
pub mod Searching
pub mod Relabelling
pub mod Finding
