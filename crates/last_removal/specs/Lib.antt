pub mod LastRemoval
