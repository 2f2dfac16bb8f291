pub mod Numbers
pub mod Paper
pub mod Passed
