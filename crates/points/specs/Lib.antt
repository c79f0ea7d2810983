pub mod Listing
pub mod Positions
pub mod EachPoint
pub mod Wrong
