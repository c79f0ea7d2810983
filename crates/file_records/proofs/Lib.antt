pub mod Laying
pub mod Values
