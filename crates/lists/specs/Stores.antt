-- What a function that stores numbers leaves in the buffer that it is lent.
use Rattle.std.specs.Prelude.{◌≡◌, List, ℕ, ◌+◌, ◌^◌, ◌<◌, length}
use Rattle.std.proofs.lemmas.List.Edits.{sets}

-- `ns` was stored from the place `at` on and nothing else was, and `next` is the place after it
pub record Puts (out : List ℕ) (at : ℕ) (ns : List ℕ) (out' : List ℕ) (next : ℕ) : Type 0 where
  pub place : next ≡ at + length ns
  pub stores : out' ≡ sets out at ns

-- a working buffer that the library lends to itself is brief, so that no sum of places wraps; free: no answer depends on the number
abbrev pub Brief : List ℕ → Type 0
Brief xs = length xs < 2 ^ 20
