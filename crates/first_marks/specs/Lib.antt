pub mod FirstMarks
