-- `Decides`: each contract leaves one outcome. `Tells`: the fields lose nothing of the answer.
pub mod Decides
pub mod Tells
