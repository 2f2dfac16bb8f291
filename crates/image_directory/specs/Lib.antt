pub mod Search
pub mod Part
pub mod Sound
