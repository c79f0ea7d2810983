pub mod Shaky
pub mod Bodies
pub mod Wrong
