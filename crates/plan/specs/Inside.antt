-- What only this crate's own functions and proofs go by.
pub mod Ahead
pub mod Work
pub mod Props
