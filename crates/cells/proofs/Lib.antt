pub mod Examples
pub mod Faces
pub mod Chains
pub mod Groups
pub mod GroupsAre
pub mod GroupsSize
pub mod GroupsNumber
