pub mod Entry
pub mod Grammar
pub mod Block
pub mod Verdict
pub mod Taken
