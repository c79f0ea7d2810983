-- Worked bytes, records, files and written forms, by computation.
pub mod Bytes
pub mod Layer
pub mod Patch
pub mod File
pub mod Written
