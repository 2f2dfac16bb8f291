-- For the crates above: `Answers`, what an answer says of the image. `Decides` is the theorem that the promises leave one outcome.
pub mod Answers
pub mod Decides
mod Turns
mod Outcomes
