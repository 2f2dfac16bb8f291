-- Document 01's examples of the clock: one table, one statement.
-- Assumes nothing.
use mathlib.Core.Path.{◌≡◌, refl}
use mathlib.Core.List.{List, [], ◌∷◌}
use Prim.Native.Nat.{ℕ}
use Rattle.rules.specs.Refusals.{not_in_the_year, refusal}
use Rattle.rules.specs.Paper.{Paper, accepting, refusing}
use Rattle.clock.specs.Clock.{values, promised}

-- each step has the answer beside it
abbrev pub Right : List (ℕ × Paper) → Type 0
Right [] = Unit {0}
Right (r ∷ rs) = (promised r.0 ≡ r.1) × Right rs

-- step 0 is day 1, 00:00; step 87,599 is day 365, 23:54; step 87,600 is refused
abbrev pub table : List (ℕ × Paper)
table =
    (0, accepting (1 ∷ 0 ∷ 0 ∷ []))
    ∷ (87599, accepting (365 ∷ 23 ∷ 54 ∷ []))
    ∷ (87600, refusing values (refusal not_in_the_year 0))
    ∷ []

pub clock_examples : Right table
clock_examples = (refl, (refl, (refl, tt)))
