-- Worked bytes, records, files and written forms, rule by rule.
pub mod Bytes
pub mod Layer
pub mod Patch
pub mod File
pub mod Written
