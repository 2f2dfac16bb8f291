-- `Results` says how a result ends, by the tests that lead there, `Leaving` what is then left, and `Decides` that this leaves no choice.
pub mod Results
pub mod Leaving
pub mod Decides
