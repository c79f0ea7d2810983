pub mod Idle
pub mod Waking
pub mod Removal
pub mod Fitting
