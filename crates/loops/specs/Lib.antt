pub mod InPlace
pub mod Rows
pub mod Searches
pub mod Joined
