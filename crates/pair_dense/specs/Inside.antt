-- What only the functions of this crate promise each other.
pub mod Words
pub mod Walks
pub mod Taking
