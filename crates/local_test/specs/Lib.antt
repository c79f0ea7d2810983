pub mod Answers
pub mod Touched
