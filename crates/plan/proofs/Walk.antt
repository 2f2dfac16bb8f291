-- For the crates above, which walk along the blocks that the planner has marked: its cut holds all steps, and each word says its block.
-- Assumes nothing.
use mathlib.Core.Path.{◌≡◌, refl}
use mathlib.Core.List.{List, [], ◌∷◌}
use Prim.Native.Nat.{ℕ, ◌/◌, ◌%◌, ◌≤◌, ◌<◌}
use native.Mathlib.Omega.{arith}
use lib.ListN.{length, get_or}
use Rattle.cut.specs.Cut.{number, Block, Cuts, Best}
use Rattle.cut.proofs.Blocks.{number-le}
use Rattle.cut.proofs.Cuts.{Cuts-le, Cuts-lt}
use Rattle.cut.proofs.BestCut.{best_cut-Best}
use Rattle.plan.specs.Cost.{cost}
use Rattle.plan.specs.Planned.{cut_of, word_of, Marked}

-- the planner's cut is the best, and a cut of all steps
pub Best_planned : (xs : List ℕ) → Best (cost xs) 0 (length xs) (cut_of xs)
Best_planned xs = best_cut-Best (cost xs) (length xs) 0 (omega arith)

pub Cuts_planned : (xs : List ℕ) → Cuts 0 (length xs) (cut_of xs)
Cuts_planned xs = (Best_planned xs).cut

-- ---- a word says its block

pub word_upto : (b : Block) → word_of b / 2 ≡ b.upto
word_upto b = omega (arith, number-le b.kind)

pub word_number : (b : Block) → word_of b % 2 ≡ number b.kind
word_number b = omega (arith, number-le b.kind)

-- ---- block by block: what is left after the first block of the cut `bs` from rank `i` up to rank `n`, which the word at `i` says

pub record Head (work : List ℕ) (i n : ℕ) (bs : List Block) : Type 0 where
  pub first : Block
  pub rest : List Block
  pub is : bs ≡ first ∷ rest
  pub word : get_or work i 0 ≡ word_of first
  pub after : i < first.upto
  pub within : first.upto ≤ n
  pub cuts : Cuts first.upto n rest
  pub marked : Marked work first.upto rest

module _ {work : List ℕ} {i n : ℕ} where
  pub marked_head : (bs : List Block) → Cuts i n bs → Marked work i bs → i < n → Head work i n bs
  marked_head [] c m h = absurd (omega arith)
  marked_head (b ∷ bs) c m h = record {
    first = b;
    rest = bs;
    is = refl;
    word = m.0;
    after = c.0;
    within = Cuts-le b.upto n bs c.1;
    cuts = c.1;
    marked = m.1;
  }

pub Cuts_none : {i n : ℕ} (bs : List Block) → Cuts i n bs → n ≤ i → bs ≡ []
Cuts_none [] c h = refl
Cuts_none {i} {n} (b ∷ bs) c h = absurd (omega (arith, Cuts-lt i n b bs c))
