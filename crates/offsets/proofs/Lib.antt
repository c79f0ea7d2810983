pub mod Offsets
pub mod Held
