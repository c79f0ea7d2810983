pub mod Bounding
pub mod Exposing
pub mod Settling
