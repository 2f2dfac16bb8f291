-- Some turns of a merge, by the numbers that show the first steps of two lists.
use Rattle.std.specs.Prelude.{◌≡◌, ◌⊎◌, List, ◌++◌, ℕ, ◌+◌, ◌≤◌, ◌<◌, length, get_or, take, drop}
use Rattle.rules.specs.Limits.{no_step}
use Rattle.pair_operation.specs.declared.Operation.{Operation}
use Rattle.pair_operation.specs.Result.{result_of}
use Rattle.pair_operation.proofs.Merging.{Below}
use Rattle.pair_thin.specs.declared.Progress.{Progress}

-- the numbers show the first of the steps `xs`, and `no_step` where there is none
abbrev pub Shows : List ℕ → List ℕ → Type 0
Shows numbers xs = (i : ℕ) → i < length numbers → get_or numbers i 0 ≡ get_or xs i no_step

-- two lists of steps and the numbers that show them: of one side these are all steps
pub record Shown (left right xs ys : List ℕ) : Type 0 where
  pub from : ℕ
  pub first_below : Below from no_step xs
  pub second_below : Below from no_step ys
  pub first : Shows left xs
  pub second : Shows right ys
  pub real : (length left ≤ length xs) ⊎ (length right ≤ length ys)

-- `i` steps of `xs` and `j` of `ys` were taken, and `kept` is what the operation keeps of them
pub record Went (op : Operation) (xs ys : List ℕ) (i j : ℕ) (kept : List ℕ) : Type 0 where
  pub from : ℕ
  pub first_below : Below from no_step (drop i xs)
  pub second_below : Below from no_step (drop j ys)
  pub first : i ≤ length xs
  pub second : j ≤ length ys
  pub is : result_of op xs ys ≡ kept ++ result_of op (drop i xs) (drop j ys)

-- WHAT SOME TURNS DO, whatever steps the numbers show: at least one step was taken, and the kept ones stand in front
pub record Merges (op : Operation) (left right : List ℕ) (r : Progress) (kept : List ℕ) : Type 0 where
  pub first : r.left ≤ length left
  pub second : r.right ≤ length right
  pub some : 0 < r.left + r.right
  pub within : r.kept ≤ length kept
  pub went : (xs ys : List ℕ) → Shown left right xs ys → Went op xs ys r.left r.right (take r.kept kept)
