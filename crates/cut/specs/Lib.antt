pub mod Cut
pub mod BestCut
pub mod Inside
