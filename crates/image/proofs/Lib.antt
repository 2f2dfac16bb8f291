-- `Accepted` is the theorem, and `Reading` and `Writing` are its two halves. Functions over an image go by `Entries`, `Directory`, `Found`,
-- `Blocks` and `Verdict`; `Parts`, `Sizes` and `Places` say what is known of the image of a cut; `Taken` and `Named` say what is known of any
-- image that is accepted, and of any that is refused.
pub mod Entries
pub mod Directory
pub mod Found
pub mod Blocks
pub mod Verdict
pub mod Parts
pub mod Sizes
pub mod Places
pub mod Reading
pub mod Writing
pub mod Accepted
pub mod Taken
pub mod Named
