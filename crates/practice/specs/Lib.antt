pub mod Practice
pub mod Work
pub mod Course
pub mod Wrong
