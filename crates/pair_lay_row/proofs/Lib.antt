-- For the proofs of this crate: `Bits`, parts of a word; `Cutting`, past several ones of a word; `Laying`, the words of a row that go into a
-- window; `Placing`, one turn.
mod Bits
mod Cutting
mod Laying
mod Placing
