pub mod Readable
pub mod Part
