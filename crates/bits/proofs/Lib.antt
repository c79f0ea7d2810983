pub mod Bits
pub mod Spaced
pub mod LowestBit
