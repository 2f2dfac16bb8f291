pub mod Blocks
pub mod Walk
pub mod Turns
pub mod Inside
