-- For the crates above: `Loosely`, stores that leave four places loose.
-- For the proofs of this crate: what the loops go by, bit by bit (`Clearing`) and by groups (`Grouping`).
pub mod Loosely
mod Clearing
mod Grouping
