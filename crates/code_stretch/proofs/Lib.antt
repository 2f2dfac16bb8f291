-- For the crates above: `Runs`, codes that stand one after the other.
-- For the proofs of this crate: `Bytewise`, what bytes say one by one.
mod Bytewise
pub mod Runs
