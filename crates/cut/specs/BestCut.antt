-- The best cut, computed from the last position to the first.
use Rattle.std.specs.Prelude.{List, [], ◌∷◌, ℕ, zero, suc, ◌-◌, ltb, get_or}
use Rattle.lists.specs.Choice.{pick}
use Rattle.cut.specs.Cut.{Kind, codes, row, Block, block, bytes}

-- of two cuts from `i` on the second where it has fewer bytes, else the first
abbrev pub fewer : (ℕ → ℕ → Kind → ℕ) → ℕ → List Block → List Block → List Block
fewer cost i xs ys = pick (ltb (bytes cost i ys) (bytes cost i xs)) ys xs

module _ (cost : ℕ → ℕ → Kind → ℕ) (n : ℕ) where
  -- The best of the cuts from `i` on whose first block ends at `j` or later, where `rests` are the best cuts from `j`, `j + 1`, .., `n` on.
  -- One block of codes comes first in the tie order. A shorter first block, or a bit row for codes, takes the place only by fewer bytes.
  unfoldable pub fewest : ℕ → ℕ → List (List Block) → List Block
  fewest i j [] = block codes n ∷ []
  fewest i j (rest ∷ rests) = fewer cost i (fewest i (suc j) rests) (fewer cost i (block codes j ∷ rest) (block row j ∷ rest))

  -- the best cuts from `i`, `i + 1`, .., `n` on, where `n` is `i + d`
  unfoldable pub best_cuts : ℕ → ℕ → List (List Block)
  best_cuts zero i = [] ∷ []
  best_cuts (suc d) i = let rests = best_cuts d (suc i) in fewest i (suc i) rests ∷ rests

  -- the best cut of the steps from rank `i` up to rank `n`
  unfoldable pub best_cut : ℕ → List Block
  best_cut i = get_or (best_cuts (n - i) i) 0 []

  -- its bytes
  abbrev pub least : ℕ → ℕ
  least i = bytes cost i (best_cut i)
