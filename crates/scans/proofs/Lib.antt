pub mod Borders
