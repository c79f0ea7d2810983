pub mod Choice
pub mod Checked
