pub mod Blocks
pub mod Sources
pub mod Spreading
pub mod Spacing
