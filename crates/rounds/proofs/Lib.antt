pub mod Answers
pub mod Going
pub mod Counting
pub mod Ended
