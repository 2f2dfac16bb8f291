-- For the crates above: `Codes`, what a block stands for.
-- For the proofs of this crate: `Turns`, `Finding` and `Passing`, what the loops go by.
pub mod Codes
mod Turns
mod Finding
mod Passing
