pub mod Closing
pub mod Finishing
