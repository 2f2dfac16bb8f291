-- For the proofs of this crate: what the loops go by.
mod Marking
