-- Read `Demands` first, then what its words stand for: `Promises`, `Inputs`, `Plain`.
pub mod Promises
pub mod Inputs
pub mod Plain
pub mod Demands
