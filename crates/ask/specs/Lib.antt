pub mod Rank
pub mod First
pub mod Cursor
pub mod Inside
