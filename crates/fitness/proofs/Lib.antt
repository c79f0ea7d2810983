pub mod Numbers
pub mod Marked
pub mod Pending
