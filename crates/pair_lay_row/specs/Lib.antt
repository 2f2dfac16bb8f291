pub mod Lays
pub mod Inside
