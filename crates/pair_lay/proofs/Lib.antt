-- For the proofs of this crate: `Running`, the steps of codes that go into a window; `Fours`, four of them at once; `Laying`, turn by turn.
mod Running
mod Fours
mod Laying
