-- One turn of a merge of two lists, by the first step of each. `t` is above every step and stands for the first step of an empty list.
use Rattle.std.specs.Prelude.{Bool, List, [], ◌∷◌, ℕ, eqb}
use Rattle.lists.specs.Choice.{pick}

-- the first step, or `t` where there is none
abbrev pub head_of : ℕ → List ℕ → ℕ
head_of t [] = t
head_of t (x ∷ xs) = x

-- the list past the step `m`, if it begins with it
abbrev pub past_of : ℕ → List ℕ → List ℕ
past_of m [] = []
past_of m (x ∷ xs) = pick (eqb x m) xs (x ∷ xs)

-- a step in front of a list, where it is kept
abbrev pub kept : Bool → ℕ → List ℕ → List ℕ
kept b x zs = pick b (x ∷ zs) zs
