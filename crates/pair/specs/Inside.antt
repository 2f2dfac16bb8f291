-- What only contracts of private functions, and proofs, speak of.
pub mod Room
