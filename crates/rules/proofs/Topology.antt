-- Demand 3: what a removal does to the body, its background and its Euler number, and what holds after every list of calls.
pub mod Sum
pub mod Cells
pub mod Links
pub mod Around
pub mod Surface
pub mod Removal
pub mod Count
pub mod Moves
pub mod BoxCells
pub mod Box
pub mod Bytes
pub mod Steps
pub mod Calls
pub mod Start
