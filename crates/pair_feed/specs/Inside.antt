-- What only the functions of this crate promise each other.
pub mod Growth
