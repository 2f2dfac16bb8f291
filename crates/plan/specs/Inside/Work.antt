-- What stands in the work area between the planner's passes: two words for each rank `u`, at `u` and at `length xs + u`.
use Rattle.std.specs.Prelude.{◌≡◌, List, ◌∷◌, ℕ, ◌+◌, ◌-◌, ◌*◌, ◌<◌, ◌≤◌, length, get_or, drop}
use Rattle.lists.specs.Rising.{past}
use Rattle.rules.specs.Sizes.{work_for}
use Rattle.rules.specs.Listed.{Listed}
use Rattle.code.specs.Code.{code_size}
use Rattle.row.specs.Row.{byte_bits}
use Rattle.cut.specs.Cut.{Kind, block}
use Rattle.cut.specs.BestCut.{best_cut}
use Rattle.plan.specs.Cost.{cost}
use Rattle.plan.specs.Inside.Ahead.{bytes_at, codes_at, reach_at}
use Rattle.plan.specs.Planned.{word_of}

-- a pass keeps the length of the work area, and what lies beyond the work of `n` steps
pub record Kept (n : ℕ) (before after : List ℕ) : Type 0 where
  pub same : length after ≡ length before
  pub rest : drop (work_for n) after ≡ drop (work_for n) before

-- the size of each step's code, for the ranks below `i`
abbrev pub Sized : List ℕ → List ℕ → ℕ → Type 0
Sized xs work i = (u : ℕ) → u < i → get_or work (length xs + u) 0 ≡ code_size (get_or xs u 0 - past xs u)

-- the numbers ahead, for the ranks from `i` on
pub record Ready (xs work : List ℕ) (i : ℕ) : Type 0 where
  pub listed : Listed xs
  pub room : work_for (length xs) ≤ length work
  pub reach : (u : ℕ) → i ≤ u → u < length xs → get_or work u 0 ≡ reach_at xs u
  pub codes : (u : ℕ) → i ≤ u → u < length xs → get_or work (length xs + u) 0 ≡ codes_at xs u

-- a scan that goes up from the rank after `i` has come to `j`
pub record Scanning (On : ℕ → Type 0) (n i j : ℕ) : Type 0 where
  pub after : i < j
  pub within : j ≤ n
  pub passed : (u : ℕ) → u < j → i < u → On u

-- the first rank above `i` that does not go on, or `n` where each below does
pub record Stops (On : ℕ → Type 0) (n i r : ℕ) : Type 0 where
  pub after : i < r
  pub within : r ≤ n
  pub passed : (j : ℕ) → i < j → j < r → On j
  pub stopped : r < n → On r → ⊥

-- the ranks that a look passes at once
abbrev pub stride : ℕ
stride = 16

-- a block of codes that comes to rank `j` goes on as the best one from there on does
abbrev pub GoesOn : List ℕ → ℕ → Type 0
GoesOn xs j = codes_at xs j ≤ bytes_at xs j

-- it does so at all ranks from `i` up to `r`
abbrev pub AllGoOn : List ℕ → ℕ → ℕ → Type 0
AllGoOn xs i r = (u : ℕ) → u < r → i ≤ u → GoesOn xs u

-- the largest end of a first block of codes from rank `i` on
abbrev pub CodesEnd : List ℕ → ℕ → ℕ → Type 0
CodesEnd xs i r = Stops (GoesOn xs) (length xs) i r

-- where `b` bytes, those of a row from rank `i` on and of all the blocks after it, still reach what lies ahead
abbrev pub RowEnd : List ℕ → ℕ → ℕ → ℕ → Type 0
RowEnd xs i b r = Stops (λ (j : ℕ). reach_at xs j ≤ past xs i + byte_bits * b) (length xs) i r

-- up to `r` no rank reaches beyond `top`
abbrev pub Covered : List ℕ → ℕ → ℕ → ℕ → Type 0
Covered xs i top r = Scanning (λ (j : ℕ). reach_at xs j ≤ top) (length xs) i r

-- the word of the first block of the best cut from rank `i` on
pub record Chosen (xs : List ℕ) (i word : ℕ) : Type 0 where
  pub kind : Kind
  pub upto : ℕ
  pub after : i < upto
  pub within : upto ≤ length xs
  pub is : word ≡ word_of (block kind upto)
  pub first : best_cut (cost xs) (length xs) i ≡ block kind upto ∷ best_cut (cost xs) (length xs) upto
