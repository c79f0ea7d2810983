pub mod Reply
pub mod Structs
pub mod FromC
