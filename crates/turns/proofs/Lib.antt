pub mod Opening
pub mod Allowing
