pub mod Written
pub mod Outcome
pub mod Promise
pub mod Inside
