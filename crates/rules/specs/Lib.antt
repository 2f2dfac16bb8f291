pub mod Limits
pub mod Sizes
pub mod Listed
pub mod Refusals
pub mod Paper
pub mod Numbers
