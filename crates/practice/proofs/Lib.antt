pub mod Values
pub mod Framing
pub mod Calling
pub mod Course
pub mod Starts
pub mod Wrong
