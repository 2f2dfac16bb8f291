-- The tests of a list: an index that they find is that of the first fault, and a list without one is one of document 01's.
-- Assumes nothing.
use mathlib.Core.Path.{◌≡◌, refl, ap, ◌∙◌}
use mathlib.Core.Bool.{Bool, true, false}
use mathlib.Core.List.{List, [], ◌∷◌}
use Prim.Native.Nat.{ℕ, zero, suc, ◌+◌, ◌-◌, ◌≤◌, ◌<◌}
use native.Mathlib.Omega.{arith}
use native.Mathlib.Nat.{add-zero, add-suc}
use native.Mathlib.Numerals.{add-one}
use borrow.Author.Count.{below_more}
use borrow.Author.Tests.{lt-ltb, le-ltb, ltb-true, ltb-false}
use lib.ListN.{length, get_or, drop, drop_of_length-le}
use lib.Seq.{drop-cons}
use Rattle.lists.specs.Rising.{Rising, beyond, past}
use Rattle.lists.proofs.Choice.{by_lt}
use Rattle.lists.proofs.Rising.{Rising-beyond}
use Rattle.lists.proofs.Ranks.{past_suc}
use Rattle.rules.specs.Limits.{largest_step, most_steps}
use Rattle.rules.specs.Listed.{Listed}
use Rattle.write_list.specs.Faults.{first_of, above, falls, first_above, first_fall}
use Rattle.write_list.specs.Inside.Passed.{Passed}

-- ---- the first index at which a test holds

module _ (test : ℕ → ℕ → Bool) where
  first_nil : (o : ℕ) → first_of test o [] ≡ 0
  unfolding first_of
  first_nil o = refl

  first_here : (o x : ℕ) (xs : List ℕ) → test o x ≡ true → first_of test o (x ∷ xs) ≡ 0
  unfolding first_of
  first_here o x xs e = rw e

  first_past : (o x : ℕ) (xs : List ℕ) → test o x ≡ false → first_of test o (x ∷ xs) ≡ suc (first_of test (suc x) xs)
  unfolding first_of
  first_past o x xs e = rw e

  -- by what the test says
  by_test : {X : Type 0} (o x : ℕ) → (test o x ≡ true → X) → (test o x ≡ false → X) → X
  by_test {X} o x f g = go (test o x) refl
    where
      go : (b : Bool) → test o x ≡ b → X
      go true e = f e
      go false e = g e

  pub first_le : (o : ℕ) (xs : List ℕ) → first_of test o xs ≤ length xs
  first_le o [] = omega (arith, first_nil o)
  first_le o (x ∷ xs) =
      by_test o x (λ e. omega (arith, first_here o x xs e)) (λ e. omega (arith, first_past o x xs e, first_le (suc x) xs))

  module _ (xs : List ℕ) where
    -- the first of all is the first from `i` on
    first_rest : (i : ℕ) → i ≤ length xs → Passed test xs i → first_of test 0 xs ≡ i + first_of test (past xs i) (drop i xs)
    first_rest zero h p = omega arith
    first_rest (suc i) h p =
        let n : first_of test (past xs i) (drop i xs) ≡ suc (first_of test (past xs (suc i)) (drop (suc i) xs)) =
        ap (first_of test (past xs i)) (drop-cons xs i 0 (omega arith))
        ∙ first_past (past xs i) (get_or xs i 0) (drop (suc i) xs) (p i (omega arith))
        ∙ rw (add-one (get_or xs i 0))
        in
        omega (arith, first_rest i (omega arith) (λ k l. p k (omega arith)))

    module _ (i : ℕ) (p : Passed test xs i) where
      -- a search ends where the test holds, or at the end
      first_halt : i < length xs → test (past xs i) (get_or xs i 0) ≡ true → first_of test 0 xs ≡ i
      first_halt h e =
          omega (
            arith,
            first_rest i (omega arith) p,
            ap (first_of test (past xs i)) (drop-cons xs i 0 h),
            first_here (past xs i) (get_or xs i 0) (drop (suc i) xs) e,
          )

      pub first_end : i ≡ length xs → first_of test 0 xs ≡ i
      first_end h =
          omega (
            arith,
            first_rest i (omega arith) p,
            ap (first_of test (past xs i)) (drop_of_length-le xs {i = i} (omega arith)),
            first_nil (past xs i),
          )

    passed : (i : ℕ) → i ≤ first_of test 0 xs → Passed test xs i
    passed zero h = λ k l. absurd (omega arith)
    passed (suc i) h =
        let p : Passed test xs i = passed i (omega arith) in
        rw (← add-one i)
        (below_more (λ (k : ℕ). test (past xs k) (get_or xs k 0) ≡ false) i p
        (by_test (past xs i) (get_or xs i 0) (λ e. absurd (omega (arith, first_halt i p (omega (arith, first_le 0 xs)) e))) (λ e. e)))

    -- THE INDEX IS THE FIRST: the test holds there, and at none below
    pub first_below : Passed test xs (first_of test 0 xs)
    first_below = passed (first_of test 0 xs) (omega arith)

    pub first_at : first_of test 0 xs < length xs → test (past xs (first_of test 0 xs)) (get_or xs (first_of test 0 xs) 0) ≡ true
    first_at h =
        let i : ℕ = first_of test 0 xs in
        by_test (past xs i) (get_or xs i 0) (λ e. e)
        (λ e.
        absurd
        (omega (
          arith,
          first_rest i (omega arith) first_below,
          ap (first_of test (past xs i)) (drop-cons xs i 0 h),
          first_past (past xs i) (get_or xs i 0) (drop (suc i) xs) e,
        )))

-- ---- the two tests

module _ (xs : List ℕ) where
  pub above_at : first_above xs < length xs → largest_step < get_or xs (first_above xs) 0
  above_at h = ltb-true _ _ (first_at above xs h)

  pub above_below : (k : ℕ) → k < first_above xs → get_or xs k 0 ≤ largest_step
  above_below k h = ltb-false _ _ (first_below above xs k h)

  pub fall_at : first_fall xs < length xs → get_or xs (first_fall xs) 0 < past xs (first_fall xs)
  fall_at h = ltb-true _ _ (first_at falls xs h)

  pub fall_below : (k : ℕ) → k < first_fall xs → past xs k ≤ get_or xs k 0
  fall_below k h = ltb-false _ _ (first_below falls xs k h)

  -- where a search for a fall ends, and one for a step above the largest
  pub rise_halt : {i : ℕ} → 0 < i → Passed falls xs i → i < length xs → get_or xs i 0 ≤ get_or xs (i - 1) 0 → first_fall xs ≡ i
  rise_halt {i} some p l h =
      first_halt falls xs i p l (lt-ltb (get_or xs i 0) (past xs i) (omega (arith, past_suc xs i (λ z. omega arith))))

  pub small_halt : {i : ℕ} → Passed above xs i → i < length xs → largest_step < get_or xs i 0 → first_above xs ≡ i
  small_halt {i} p l h = first_halt above xs i p l (lt-ltb largest_step (get_or xs i 0) h)

  -- the steps before a fall rise
  rising_below : (f d k : ℕ) → Passed falls xs f → k + d < f → get_or xs k 0 ≤ get_or xs (k + d) 0
  rising_below f zero k p h = rw (add-zero k) (omega arith)
  rising_below f (suc d) k p h =
      rw (add-suc k d)
      (omega (
        arith,
        rising_below f d k p (omega arith),
        ltb-false (get_or xs (suc (k + d)) 0) (past xs (suc (k + d))) (p (suc (k + d)) (omega arith)),
      ))

  -- so that none of them is above the largest where the last is not
  pub small_below : (f : ℕ) → Passed falls xs f → get_or xs (f - 1) 0 ≤ largest_step → Passed above xs f
  small_below f p h k l =
      let q : k + (f - 1 - k) ≡ f - 1 = omega arith in
      le-ltb largest_step (get_or xs k 0)
      (omega (arith, rising_below f (f - 1 - k) k p (omega arith), ap (λ (n : ℕ). get_or xs n 0) q))

-- ---- a list that stands them

Rising_first : (o : ℕ) (xs : List ℕ) → length xs ≤ first_of falls o xs → Rising o xs
Rising_first o [] h = tt
Rising_first o (x ∷ xs) h =
    by_lt x o (λ l. absurd (omega (arith, first_here falls o x xs (lt-ltb x o l))))
    (λ l. (l, Rising_first (suc x) xs (omega (arith, first_past falls o x xs (le-ltb x o l)))))

beyond_first : (o : ℕ) (xs : List ℕ) → o ≤ largest_step + 1 → length xs ≤ first_of above o xs → beyond o xs ≤ largest_step + 1
beyond_first o [] k h = k
beyond_first o (x ∷ xs) k h =
    by_lt largest_step x (λ l. absurd (omega (arith, first_here above o x xs (lt-ltb largest_step x l))))
    (λ l. beyond_first (suc x) xs (omega arith) (omega (arith, first_past above o x xs (le-ltb largest_step x l))))

first_Rising : (o : ℕ) (xs : List ℕ) → Rising o xs → first_of falls o xs ≡ length xs
first_Rising o [] r = first_nil falls o
first_Rising o (x ∷ xs) r = first_past falls o x xs (le-ltb x o r.0) ∙ ap suc (first_Rising (suc x) xs r.1)

first_beyond : (o : ℕ) (xs : List ℕ) → Rising o xs → beyond o xs ≤ largest_step + 1 → first_of above o xs ≡ length xs
first_beyond o [] r h = first_nil above o
first_beyond o (x ∷ xs) r h =
    first_past above o x xs (le-ltb largest_step x (omega (arith, Rising-beyond (suc x) xs r.1)))
    ∙ ap suc (first_beyond (suc x) xs r.1 h)

-- A LIST THAT STANDS THE TESTS IS ONE OF DOCUMENT 01'S
pub faultless_Listed : (xs : List ℕ) → length xs ≤ most_steps → length xs ≤ first_above xs → length xs ≤ first_fall xs → Listed xs
faultless_Listed xs n a f =
    record { rising = Rising_first 0 xs f; small = beyond_first 0 xs (omega arith) a; few = n }

-- and such a list stands them
pub listed_above : {xs : List ℕ} → Listed xs → first_above xs ≡ length xs
listed_above {xs} l = first_beyond 0 xs l.rising l.small

pub Listed_fall : {xs : List ℕ} → Listed xs → first_fall xs ≡ length xs
Listed_fall {xs} l = first_Rising 0 xs l.rising
