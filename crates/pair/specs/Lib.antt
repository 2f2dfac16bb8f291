pub mod Promise
pub mod Chain
pub mod Inside
