pub mod Nodes
pub mod Root
