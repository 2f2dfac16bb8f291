-- Codes that stand one after the other.
use Rattle.std.specs.Prelude.{◌≡◌, List, [], ◌∷◌, ℕ, ◌+◌, ◌≤◌, length, Ok}
use Rattle.code.specs.Code.{reading, read_at}

-- the bytes that have to be there for codes to be passed at once: 64 are added up, the last code goes on in at most three more, and what is learnt
-- of a byte depends on the next three
abbrev pub reach : ℕ
reach = 70

-- the codes from `at` to before `n` are those of `xs`
abbrev pub Run : List ℕ → ℕ → List ℕ → ℕ → Type 0
Run s at [] n = at ≡ n
Run s at (x ∷ xs) n = (m : ℕ) × (read_at s at ≡ Ok (reading x m)) × Run s m xs n

-- the sum of values
abbrev pub sum_of : List ℕ → ℕ
sum_of [] = 0
sum_of (x ∷ xs) = x + sum_of xs

-- from `at` to before `n` stand codes: so many, of values with this sum
pub record Passed (s : List ℕ) (at n count value : ℕ) : Type 0 where
  pub values : List ℕ
  pub codes : Run s at values n
  pub many : length values ≡ count
  pub worth : sum_of values ≡ value
  pub within : n ≤ length s
