-- What the planner leaves behind.
use Rattle.std.specs.Prelude.{◌≡◌, List, [], ◌∷◌, ℕ, ◌+◌, ◌*◌, length, get_or, drop}
use Rattle.rules.specs.Sizes.{work_for}
use Rattle.cut.specs.Cut.{Block, number}
use Rattle.cut.specs.BestCut.{best_cut, least}
use Rattle.plan.specs.Cost.{cost}
use Rattle.plan.specs.declared.Totals.{Totals}

-- the best cut of a list
abbrev pub cut_of : List ℕ → List Block
cut_of xs = best_cut (cost xs) (length xs) 0

-- the word of a block: twice its upto, and one more for a row
abbrev pub word_of : Block → ℕ
word_of b = 2 * b.upto + number b.kind

-- the words of a cut's blocks stand in the work area, each at the rank where its block begins
abbrev pub Marked : List ℕ → ℕ → List Block → Type 0
Marked work i [] = Unit {0}
Marked work i (b ∷ bs) = (get_or work i 0 ≡ word_of b) × Marked work b.upto bs

-- the plan of the list `xs`, and the work area before and after
pub record Planned (xs before after : List ℕ) (r : Totals) : Type 0 where
  pub same : length after ≡ length before
  pub marked : Marked after 0 (cut_of xs)
  pub blocks : r.blocks ≡ length (cut_of xs)
  pub bytes : r.bytes ≡ least (cost xs) (length xs) 0
  pub rest : drop (work_for (length xs)) after ≡ drop (work_for (length xs)) before
