pub mod Result
pub mod Turns
pub mod Merging
pub mod Sets
