pub mod Outcomes
pub mod Decides
pub mod Links
pub mod Chains
pub mod Algebra
mod Holding
mod Sides
