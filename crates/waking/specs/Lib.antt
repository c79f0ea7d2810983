pub mod Waking
