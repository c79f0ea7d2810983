pub mod Offsets
pub mod Flooding
pub mod Spreading
pub mod Positions
