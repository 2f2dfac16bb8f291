-- For the crates above: `Decides`, the theorem that each promise leaves one answer; `Walks`, that a cursor gives the list step by step.
-- For the proofs of this crate: `Seeking`, a loop over the directory; `Landing` and `Holding`, the block that holds an answer; `Answers`, what
-- each question then answers.
pub mod Decides
pub mod Walks
mod Landing
mod Holding
mod Answers
