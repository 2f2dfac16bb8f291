pub mod Choice
pub mod Rising
pub mod Parts
pub mod Members
pub mod Gaps
pub mod Below
pub mod Bytes
pub mod Stores
