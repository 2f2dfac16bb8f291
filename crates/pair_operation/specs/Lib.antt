pub mod Result
pub mod Inside
