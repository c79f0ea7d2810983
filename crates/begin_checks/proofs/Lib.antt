pub mod Scans
pub mod Edges
pub mod Numbers
