-- A rising list and its gaps: for each element how many were passed over since the one before it. Document 01's
-- "step − step before it − 1".
use Rattle.std.specs.Prelude.{List, [], ◌∷◌, ℕ, suc, ◌+◌, ◌-◌}

-- the gaps of a list that begins at `o` at the earliest
abbrev pub gaps : ℕ → List ℕ → List ℕ
gaps o [] = []
gaps o (x ∷ xs) = (x - o) ∷ gaps (suc x) xs

-- the list that has these gaps
abbrev pub from_gaps : ℕ → List ℕ → List ℕ
from_gaps o [] = []
from_gaps o (v ∷ vs) = (o + v) ∷ from_gaps (suc (o + v)) vs
