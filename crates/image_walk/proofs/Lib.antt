-- For the crates above: `Ranks`, what a walk says of the list; `Shapes` and `Ahead`, the steps ahead of a walk; `Standing`, a walk
-- by its numbers; `Coding` and `Loading`, reading on
-- in codes and in a row; `Passing`, a move to the next step; `Payload`, the bytes of what a walk goes along.
-- For the proofs of this crate: `Entering`, from block to block; `Turning`, the walk that comes out of that, and the first.
pub mod Ranks
pub mod Shapes
pub mod Ahead
pub mod Standing
pub mod Coding
pub mod Loading
pub mod Passing
pub mod Payload
mod Entering
mod Turning
