-- What can be wrong with a list.
use Rattle.std.specs.Prelude.{Bool, List, [], ◌∷◌, ℕ, suc, ltb}
use Rattle.lists.specs.Choice.{pick}
use Rattle.rules.specs.Limits.{largest_step}

-- the first index at which a test holds, or the length where there is none; the test goes by one past the forerunner, `o` at first, and by
-- the element
unfoldable pub first_of : (ℕ → ℕ → Bool) → ℕ → List ℕ → ℕ
first_of test o [] = 0
first_of test o (x ∷ xs) = pick (test o x) 0 (suc (first_of test (suc x) xs))

-- is the step above the largest?
abbrev pub above : ℕ → ℕ → Bool
above o x = ltb largest_step x

-- is the step not above its forerunner?
abbrev pub falls : ℕ → ℕ → Bool
falls o x = ltb x o

-- the index of the first step above the largest, or the length where there is none
abbrev pub first_above : List ℕ → ℕ
first_above xs = first_of above 0 xs

-- the first index not above its forerunner, or the length where there is none
abbrev pub first_fall : List ℕ → ℕ
first_fall xs = first_of falls 0 xs
