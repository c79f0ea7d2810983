pub mod Carved
pub mod Hollow
pub mod Cases
