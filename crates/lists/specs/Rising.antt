-- Strictly increasing lists, and where they end. Document 01 calls the step before the first one −1; here everything goes by
-- one more than that, so that no number is below 0.
use Rattle.std.specs.Prelude.{List, [], ◌∷◌, ℕ, zero, suc, ◌+◌, ◌≤◌, get_or}

-- each element is above the one before it, and the first is at least `o`
abbrev pub Rising : ℕ → List ℕ → Type 0
Rising o [] = Unit {0}
Rising o (x ∷ xs) = (o ≤ x) × Rising (suc x) xs

-- one past the last element, and `o` where there is none
abbrev pub beyond : ℕ → List ℕ → ℕ
beyond o [] = o
beyond o (x ∷ xs) = beyond (suc x) xs

-- one past the element before rank `i`, and 0 where there is none: document 01's "before", plus 1
abbrev pub past : List ℕ → ℕ → ℕ
past xs zero = 0
past xs (suc i) = get_or xs i 0 + 1
