pub mod Closed
pub mod ClosedTally
pub mod ClosedEnd
pub mod EveryBlock
