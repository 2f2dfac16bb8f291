-- For the crates above: `Digits`, numbers joined bit by bit; `Words`, the words of a window.
-- For the proofs of this crate: `Laying`, what one store or two say.
pub mod Digits
pub mod Words
mod Laying
