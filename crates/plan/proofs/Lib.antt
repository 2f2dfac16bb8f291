mod Scans
mod Costs
mod Ranks
mod Ends
mod First
mod Passes
mod Marking
pub mod Walk
