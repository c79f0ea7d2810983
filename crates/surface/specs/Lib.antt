pub mod Surface
pub mod Coordinates
pub mod LongRange
pub mod Wrong
