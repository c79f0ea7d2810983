pub mod Neighbourhood
