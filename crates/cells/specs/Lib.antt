pub mod Groups
pub mod Linked
pub mod Cells
pub mod Faces
pub mod Examples
pub mod Classes
