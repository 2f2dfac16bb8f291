pub mod Cost
pub mod Planned
pub mod Inside
