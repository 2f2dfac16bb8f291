pub mod Inside
pub mod Read
