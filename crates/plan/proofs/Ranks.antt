-- The numbers ahead by ranks: how those of a rank come from those of the next, and that none is too large.
-- Assumes nothing.
use mathlib.Core.Path.{◌≡◌, sym, ap, ◌∙◌}
use mathlib.Core.List.{List, [], ◌∷◌}
use Prim.Native.Nat.{ℕ, suc, ◌+◌, ◌-◌, ◌*◌, ◌≤◌, ◌<◌, min}
use native.Mathlib.Omega.{arith}
use native.Mathlib.Numerals.{add-one}
use lib.ListN.{length, get_or, drop, length-drop}
use lib.Seq.{drop-length}
use Rattle.lists.specs.Rising.{Rising, beyond, past}
use Rattle.lists.proofs.Choice.{by_lt}
use Rattle.lists.proofs.Parts.{drop_one}
use Rattle.lists.proofs.Ranks.{past_next, Rising-drop, beyond-drop, beyond-past, past-beyond, past-get_or}
use Rattle.rules.specs.Limits.Laws.{largest_coded, most_counted}
use Rattle.rules.specs.Sizes.{entry_size}
use Rattle.rules.specs.Listed.{Listed}
use Rattle.code.specs.Code.{code_size}
use Rattle.code.proofs.Laws.{size_most}
use Rattle.row.specs.Row.{byte_bits, row_size}
use Rattle.plan.specs.Inside.Ahead.{most_ahead, Ahead, grown, ahead_of, ahead_at, bytes_at, codes_at, reach_at, row_at}
use Rattle.plan.specs.Inside.Work.{GoesOn}
use Rattle.plan.proofs.Costs.{codes_to, codes_one}
use Rattle.plan.proofs.Scans.{upward}

-- ---- of a list that begins at `o` at the earliest

codes_most : (o : ℕ) (ys : List ℕ) → (ahead_of o ys).codes ≤ 4 * length ys
unfolding ahead_of
codes_most o [] = omega arith
codes_most o (y ∷ ys) = omega (arith, codes_most (suc y) ys, size_most (y - o))

bytes_most : (o : ℕ) (ys : List ℕ) → (ahead_of o ys).bytes ≤ entry_size + 4 * length ys
unfolding ahead_of
bytes_most o [] = omega arith
bytes_most o (y ∷ ys) = omega (arith, codes_most (suc y) ys, size_most (y - o))

reach_most : (o : ℕ) (ys : List ℕ) → (ahead_of o ys).reach ≤ beyond o ys
unfolding ahead_of
reach_most o [] = omega arith
reach_most o (y ∷ ys) = omega (arith, reach_most (suc y) ys)

reach_least : (o : ℕ) (ys : List ℕ) → Rising o ys → o ≤ (ahead_of o ys).reach
unfolding ahead_of
reach_least o [] r = omega arith
reach_least o (y ∷ ys) r = omega (arith, reach_least (suc y) ys r.1, r.0)

-- ---- by ranks

module _ (xs : List ℕ) where
  pub ahead_end : ahead_at xs (length xs) ≡ record { bytes = 0; codes = 0; reach = past xs (length xs) }
  unfolding ahead_of
  ahead_end = ap (ahead_of (past xs (length xs))) (drop-length xs)

  pub ahead_step : (i : ℕ) → i < length xs
      → ahead_at xs i ≡ grown (code_size (get_or xs i 0 - past xs i)) (past xs i) (past xs (i + 1)) (ahead_at xs (i + 1))
  unfolding ahead_of
  ahead_step i h =
      ap (ahead_of (past xs i)) (drop_one xs i 0 h)
      ∙ ap (λ (p : ℕ). grown (code_size (get_or xs i 0 - past xs i)) (past xs i) p (ahead_of p (drop (i + 1) xs))) (sym (past_next xs i ∙ add-one (get_or xs i 0)))

  -- the numbers one by one
  pub codes_step : (i : ℕ) → i < length xs
      → codes_at xs i ≡ codes_to xs i (i + 1) + min (bytes_at xs (i + 1)) (codes_at xs (i + 1))
  codes_step i h = omega (arith, ap (λ (a : Ahead). a.codes) (ahead_step i h), codes_one xs i h)

  pub reach_step : (i : ℕ) → i < length xs
      → reach_at xs i ≡ min (reach_at xs (i + 1)) (byte_bits * bytes_at xs (i + 1) + past xs (i + 1))
  reach_step i h = ap (λ (a : Ahead). a.reach) (ahead_step i h)

  -- what lies ahead reaches no less at a later rank
  pub reach_rises : (i j : ℕ) → i ≤ j → j ≤ length xs → reach_at xs i ≤ reach_at xs j
  reach_rises i j h g =
      by_lt i j
      (λ k.
      upward (λ u. u ≤ length xs → reach_at xs i ≤ reach_at xs u) i (λ l. omega (arith, reach_step i (omega arith)))
      (λ u a p l. omega (arith, reach_step u (omega arith), p (omega arith))) j k g)
      (λ k.
      let e : i ≡ j = omega arith in
      omega (arith, ap (reach_at xs) e))

  pub bytes_step : (i : ℕ) → i < length xs → bytes_at xs i ≡ entry_size + min (codes_at xs i) (row_at xs i)
  bytes_step i h =
      omega (
        arith,
        ap (λ (a : Ahead). a.bytes) (ahead_step i h),
        ap (λ (a : Ahead). a.codes) (ahead_step i h),
        ap (λ (a : Ahead). row_size (a.reach - past xs i)) (ahead_step i h),
      )

  -- whether a block of codes goes on at a rank, by the fewest bytes of codes and of a row from there on
  module _ (i : ℕ) (h : i < length xs) {c r : ℕ} (ec : c ≡ codes_at xs i) (er : r ≡ entry_size + row_at xs i) where
    pub goes_on : c ≤ r → GoesOn xs i
    goes_on g = omega (arith, ec, er, bytes_step i h)

    pub goes_not : r < c → GoesOn xs i → ⊥
    goes_not g o = omega (arith, ec, er, bytes_step i h)

  pub codes_end : codes_at xs (length xs) ≡ 0
  codes_end = ap (λ (a : Ahead). a.codes) ahead_end

  pub bytes_end : bytes_at xs (length xs) ≡ 0
  bytes_end = ap (λ (a : Ahead). a.bytes) ahead_end

  pub reach_end : reach_at xs (length xs) ≡ past xs (length xs)
  reach_end = ap (λ (a : Ahead). a.reach) ahead_end

-- ---- none is too large

pub record Fits (xs : List ℕ) (i : ℕ) : Type 0 where
  pub start : past xs i ≤ most_ahead
  pub from : past xs i ≤ reach_at xs i
  pub reach : reach_at xs i ≤ most_ahead
  pub bytes : bytes_at xs i ≤ most_ahead
  pub codes : codes_at xs i ≤ most_ahead

pub record StepFits (xs : List ℕ) (i : ℕ) : Type 0 where
  pub from : past xs i ≤ get_or xs i 0
  pub step : get_or xs i 0 < most_ahead

module _ {xs : List ℕ} (l : Listed xs) where
  pub fits : (i : ℕ) → i ≤ length xs → Fits xs i
  fits i h = record {
    start = omega (arith, past-beyond xs i h l.rising, l.small, largest_coded);
    from = reach_least (past xs i) (drop i xs) (Rising-drop xs i h l.rising);
    reach =
        omega (arith, reach_most (past xs i) (drop i xs), beyond-drop xs i h, beyond-past xs, l.small, largest_coded);
    bytes = omega (arith, bytes_most (past xs i) (drop i xs), length-drop i xs, l.few, most_counted);
    codes = omega (arith, codes_most (past xs i) (drop i xs), length-drop i xs, l.few, most_counted);
  }

  pub step_fits : (i : ℕ) → i < length xs → StepFits xs i
  step_fits i h = record {
    from = past-get_or xs i h l.rising;
    step = omega (arith, (fits (i + 1) (omega arith)).start, past_next xs i);
  }

  -- ---- as the planner's turns have them

  -- codes that end where other codes begin are not fewer than one block of them
  pub codes_turn : (i : ℕ) → i < length xs
      → codes_at xs i ≡ code_size (get_or xs i 0 - past xs i) + min (codes_at xs (i + 1)) (entry_size + row_at xs (i + 1))
  codes_turn i h =
      by_lt (i + 1) (length xs)
      (λ k. omega (arith, codes_step xs i h, codes_one xs i h, bytes_step xs (i + 1) k))
      (λ k.
      let e : i + 1 ≡ length xs = omega arith in
      omega (arith, codes_step xs i h, codes_one xs i h, ap (bytes_at xs) e, bytes_end xs, ap (codes_at xs) e, codes_end xs))

  -- a row reaches no less than where it ends
  pub reach_turn : (i : ℕ) → i < length xs
      → reach_at xs i ≡ min (reach_at xs (i + 1)) (byte_bits * (entry_size + codes_at xs (i + 1)) + past xs (i + 1))
  reach_turn i h =
      by_lt (i + 1) (length xs)
      (λ k. omega (arith, reach_step xs i h, bytes_step xs (i + 1) k, (fits (i + 1) (omega arith)).from))
      (λ k.
      let e : i + 1 ≡ length xs = omega arith in
      omega (arith, reach_step xs i h, ap (bytes_at xs) e, bytes_end xs, ap (codes_at xs) e, codes_end xs, ap (reach_at xs) e, reach_end xs, ap (past xs) e))
