-- For the crates above: `Row`, the steps of a row; `Written`, the row of a list, and that each undoes the other; `Bits`, the ones of a number;
-- `Words`, eight bytes at once.
-- For the proofs of this crate: `Places`, where a one stands, and `Seeking`, what the loops go by.
pub mod Row
pub mod Written
pub mod Bits
pub mod Words
mod Places
mod Seeking
