-- What only the functions of this crate promise each other.
pub mod Runs
pub mod Fours
