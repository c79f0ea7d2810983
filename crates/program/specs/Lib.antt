pub mod Program
pub mod Ends
pub mod Examples
pub mod Wrong
