pub mod Decides
pub mod Examples
