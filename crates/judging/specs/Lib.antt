pub mod Judge
pub mod Accepted
pub mod Own
pub mod Guarantee
pub mod Examples
pub mod Wrong
