pub mod Line
pub mod Written
pub mod Examples
