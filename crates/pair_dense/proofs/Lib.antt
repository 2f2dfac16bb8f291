pub mod Words
pub mod Walking
pub mod Windows
