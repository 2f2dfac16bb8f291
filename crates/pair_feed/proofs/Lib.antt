-- For the crates above: `Taking`, numbers taken from a feed.
-- For the proofs of this crate: `Growing`, one step more in the buffer; `Coding`, a walk from code to code; `Filling`, a whole buffer.
pub mod Taking
mod Growing
mod Coding
mod Filling
