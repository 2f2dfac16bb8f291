pub mod Feed
pub mod Inside
