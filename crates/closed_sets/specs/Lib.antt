pub mod Rank
pub mod Formula
pub mod Faces
