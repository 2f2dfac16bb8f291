-- For the crates above: `Laws`, all that they may know of the byte code; `Flagged`, what is kept by the flag of a byte.
-- For the proofs of this crate: `Groups`, what the laws go by; `Fronts`, a short code at the front of a part.
mod Groups
pub mod Laws
pub mod Flagged
mod Fronts
