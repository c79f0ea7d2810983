pub mod Argmax
pub mod Surface
pub mod Opening
pub mod Pins
