-- The code at the front of a part, by its first two bytes.
use Rattle.std.specs.Prelude.{◌≡◌, List, ℕ, ◌+◌, ◌≤◌, ◌<◌, length, get_or, Ok, Err}
use Rattle.code.specs.declared.Flaw.{Flaw}
use Rattle.code.specs.Code.{code_values, reading, read_at}

-- the code that opens a part does not fail
abbrev pub Starts : List ℕ → Type 0
Starts s = (f : Flaw) → read_at s 0 ≡ Err f → ⊥

-- where `more` is 0, the code that opens a part whose first bytes are `a` and `b` has the value `value`, and `extra` bytes after the first
pub record Brief (a b value extra more : ℕ) : Type 0 where
  pub small : value < code_values
  pub second : extra ≤ 1
  pub flagged : more ≤ 1
  pub reads : more ≡ 0 → (s : List ℕ) → 1 < length s → get_or s 0 0 ≡ a → get_or s 1 0 ≡ b → Starts s → read_at s 0 ≡ Ok (reading value (1 + extra))
