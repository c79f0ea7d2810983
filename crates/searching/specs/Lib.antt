pub mod Argmax
