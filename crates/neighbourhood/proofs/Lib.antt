pub mod Interior
pub mod Gathering
pub mod Bodies
pub mod Few
