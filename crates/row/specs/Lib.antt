pub mod Row
pub mod Words
