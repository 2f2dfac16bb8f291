-- For the crates above: `Ahead`, a loop over the entries of a directory that was tested; `Whole`, an image that opens, and one that is accepted, as
-- the functions over its directory and its blocks require it.
pub mod Ahead
pub mod Whole
mod Faults
mod Seeking
mod Places
