pub mod Standing
pub mod Gone
pub mod Since
