-- What blocks cost: codes add up step by step, and a row costs by where it begins and ends.
-- Assumes nothing.
use mathlib.Core.Path.{◌≡◌, sym, ap, ◌∙◌}
use mathlib.Core.List.{List, []}
use Prim.Native.Nat.{ℕ, suc, ◌+◌, ◌-◌, ◌≤◌, ◌<◌}
use native.Mathlib.Omega.{arith}
use lib.ListN.{length, get_or}
use Rattle.lists.specs.Rising.{past}
use Rattle.lists.specs.Parts.{part}
use Rattle.lists.proofs.Parts.{part-append, part_one}
use Rattle.lists.proofs.Ranks.{beyond-part}
use Rattle.rules.specs.Sizes.{entry_size}
use Rattle.code.specs.Code.{code_size}
use Rattle.codes.specs.Codes.{codes_for}
use Rattle.codes.proofs.Codes.{length_codes-nil, length_codes-cons, length_codes-append}
use Rattle.row.specs.Row.{row_size}
use Rattle.row.proofs.Written.{length_row}
use Rattle.cut.specs.Cut.{row}
use Rattle.plan.specs.Cost.{cost}

module _ (xs : List ℕ) where
  -- the bytes of the codes of the steps from rank `i` up to rank `j`
  abbrev pub codes_to : ℕ → ℕ → ℕ
  codes_to i j = length (codes_for (past xs i) (part xs i j))

  pub codes_one : (i : ℕ) → i < length xs → codes_to i (i + 1) ≡ code_size (get_or xs i 0 - past xs i)
  codes_one i h =
      ap (λ (l : List ℕ). length (codes_for (past xs i) l)) (part_one xs i 0 h)
      ∙ omega (arith, length_codes-cons (past xs i) (get_or xs i 0) [], length_codes-nil (suc (get_or xs i 0)))

  pub codes_append : (i j k : ℕ) → i ≤ j → j ≤ k → j ≤ length xs → codes_to i k ≡ codes_to i j + codes_to j k
  codes_append i j k h g l =
      ap (λ (ys : List ℕ). length (codes_for (past xs i) ys)) (sym (part-append xs i j k h g))
      ∙ length_codes-append (past xs i) (part xs i j) (part xs j k)
      ∙ ap (λ (o : ℕ). codes_to i j + length (codes_for o (part xs j k))) (beyond-part xs i j h l)

  pub cost_row : (i j : ℕ) → i ≤ j → j ≤ length xs → cost xs i j row ≡ entry_size + row_size (past xs j - past xs i)
  cost_row i j h g =
      ap (λ (n : ℕ). entry_size + n)
      (length_row (past xs i) (part xs i j) ∙ ap (λ (p : ℕ). row_size (p - past xs i)) (beyond-part xs i j h g))
