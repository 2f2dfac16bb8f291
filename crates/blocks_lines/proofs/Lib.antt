-- `Decides` is the theorem that the promises leave one answer; `FirstLine` says what a caller learns from the first line.
pub mod Decides
pub mod FirstLine
mod Blocks
mod Lines
