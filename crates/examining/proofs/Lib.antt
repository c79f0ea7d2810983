pub mod Working
pub mod Running
