pub mod Parts
pub mod Order
pub mod Serve
pub mod Structs
pub mod Lists
pub mod Examples
pub mod Wrong
