-- For the proofs of this crate: `Writing` and `Groups`, what the loops go by.
mod Writing
mod Groups
