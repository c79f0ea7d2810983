pub mod Advancing
pub mod Layers
pub mod Measuring
