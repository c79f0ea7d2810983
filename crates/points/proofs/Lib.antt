pub mod Position
pub mod Walking
pub mod Listable
pub mod Worked
pub mod EachPoint
pub mod Wrong
