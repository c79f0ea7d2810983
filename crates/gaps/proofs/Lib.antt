pub mod OpenGaps
pub mod Enclosing
