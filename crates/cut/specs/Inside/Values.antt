-- What a dynamic programme computes on its way to the best cut: a number `F i` for each position `i` up to `n`, from the last to the first.
use Rattle.std.specs.Prelude.{◌≡◌, ℕ, ◌+◌, ◌≤◌, ◌<◌}
use Rattle.cut.specs.Cut.{Kind, codes, number}

module _ (cost : ℕ → ℕ → Kind → ℕ) (n : ℕ) (F : ℕ → ℕ) where
  -- a block from `i` up to `j` of kind `k` reaches the number at `i`: it costs what that is above the number at `j`
  pub record Reaches (i j : ℕ) (k : Kind) : Type 0 where
    pub after : i < j
    pub within : j ≤ n
    pub sum : F i ≡ cost i j k + F j

  -- the number at `i` is the least that a block and the number where it ends come to
  pub record Minimum (i : ℕ) : Type 0 where
    pub low : (j : ℕ) (k : Kind) → i < j → j ≤ n → F i ≤ cost i j k + F j
    pub upto : ℕ
    pub kind : Kind
    pub reaches : Reaches i upto kind

  -- the numbers of a dynamic programme: 0 at the end, and before it minima
  pub record Value : Type 0 where
    pub end : F n ≡ 0
    pub minimum : (i : ℕ) → i < n → Minimum i

  -- of the blocks that reach the number at `i` the one with more steps; then codes before bit row
  pub record First (i j : ℕ) (k : Kind) : Type 0 where
    pub reaches : Reaches i j k
    pub longest : (j' : ℕ) (k' : Kind) → j < j' → j' ≤ n → F i < cost i j' k' + F j'
    pub codes_first : 0 < number k → F i < cost i j codes + F j
