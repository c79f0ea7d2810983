pub mod Inserting
pub mod Taking
