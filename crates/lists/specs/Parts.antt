-- A part of a list.
use Rattle.std.specs.Prelude.{List, ℕ, ◌-◌, take, drop}

-- the elements from rank `i` up to, and not at, rank `j`: what `&s[i..j]` holds
abbrev pub part : {X : Type 0} → List X → ℕ → ℕ → List X
part xs i j = take (j - i) (drop i xs)
