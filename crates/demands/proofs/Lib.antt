-- `Demands` has the three theorems, and only puts together what is proved in the crates below and here: `Settling`, each input has one
-- outcome; `Accepting`, when a promise accepts; `Keeping`, what a refusal leaves alone; `Answering`, the answers about an accepted image are
-- those of its list; `Linking`, an operation that accepts is a link of a chain.
mod Settling
mod Accepting
mod Keeping
mod Answering
mod Linking
pub mod Demands
