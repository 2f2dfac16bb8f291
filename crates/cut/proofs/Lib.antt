pub mod Blocks
pub mod Leads
pub mod Cuts
pub mod Best
pub mod BestCut
pub mod Values
