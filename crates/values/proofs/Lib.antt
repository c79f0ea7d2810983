pub mod Signs
pub mod Measuring
