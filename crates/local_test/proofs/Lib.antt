pub mod Counts
pub mod Corners
pub mod Pass
pub mod Faces
