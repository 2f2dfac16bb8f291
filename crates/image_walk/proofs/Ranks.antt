-- A walk by ranks: its step is the first of those ahead, the walk before the steps from rank k on stands at the step of rank k, and walks
-- each of which is the next of the one before give the list in its order.
-- Assumes nothing.
use mathlib.Core.Path.{◌≡◌, sym, ap, ◌∙◌}
use mathlib.Core.List.{List, [], ◌∷◌}
use Prim.Native.Nat.{ℕ, zero, suc, ◌+◌, ◌≤◌, ◌<◌}
use native.Mathlib.Omega.{arith}
use native.Mathlib.Numerals.{add-one}
use lib.ListN.{length, get_or, drop, drop_of_length-le}
use lib.Seq.{drop-cons}
use Rattle.lists.proofs.Choice.{by_lt}
use Rattle.rules.specs.Limits.{no_step}
use Rattle.image_walk.specs.declared.Walk.{Walk}
use Rattle.image_walk.specs.Walk.{ahead, Stands}
use Rattle.image_walk.proofs.Shapes.{ahead_step, ahead_none}

nil-cons : {X : Type 0} {x : ℕ} {xs : List ℕ} → [] ≡ x ∷ xs → X
nil-cons e = let z : ◌≡◌ {A = ℕ} 0 1 = cc in absurd (omega arith)

first_is : {x y : ℕ} {xs ys : List ℕ} → x ∷ xs ≡ y ∷ ys → x ≡ y
first_is e = cc

rest_is : {x y : ℕ} {xs ys : List ℕ} → x ∷ xs ≡ y ∷ ys → xs ≡ ys
rest_is e = cc

-- THE STEP OF A WALK IS THE FIRST OF THOSE AHEAD
module _ (s pay : List ℕ) (w : Walk) where
  pub step_first : (x : ℕ) (xs : List ℕ) → ahead s pay w ≡ x ∷ xs → (w.step < no_step) × (w.step ≡ x)
  step_first x xs e =
      by_lt w.step no_step (λ h. (h, first_is (sym (ahead_step s pay w h) ∙ e)))
      (λ h. nil-cons (sym (ahead_none s pay w h) ∙ e))

  -- and it has no step where none is ahead
  pub step_none : Stands s pay w → ahead s pay w ≡ [] → w.step ≡ no_step
  step_none t e =
      by_lt w.step no_step (λ h. nil-cons (sym e ∙ ahead_step s pay w h)) (λ h. omega (arith, t.placed.step))

  -- ---- the walk before the steps from rank `k` on

  module _ (xs : List ℕ) (k : ℕ) (at : ahead s pay w ≡ drop k xs) where
    pub rank_step : k < length xs → (w.step < no_step) × (w.step ≡ get_or xs k 0)
    rank_step h = step_first (get_or xs k 0) (drop (suc k) xs) (at ∙ drop-cons xs k 0 h)

    pub rank_end : Stands s pay w → length xs ≤ k → w.step ≡ no_step
    rank_end t h = step_none t (at ∙ drop_of_length-le xs {i = k} h)

    pub rank_next : (r : Walk) → k < length xs → ahead s pay w ≡ w.step ∷ ahead s pay r → ahead s pay r ≡ drop (k + 1) xs
    rank_next r h e = rest_is (sym e ∙ at ∙ drop-cons xs k 0 h) ∙ ap (λ (n : ℕ). drop n xs) (sym (add-one k))

-- ---- walks, each of which is the next of the one before

module _ (s pay xs : List ℕ) (f : ℕ → Walk) (start : ahead s pay (f 0) ≡ xs)
    (next : (k : ℕ) → k < length xs → ahead s pay (f k) ≡ (f k).step ∷ ahead s pay (f (suc k))) where
  pub walk_ahead : (k : ℕ) → k ≤ length xs → ahead s pay (f k) ≡ drop k xs
  walk_ahead zero h = start
  walk_ahead (suc k) h =
      rank_next s pay (f k) xs k (walk_ahead k (omega arith)) (f (suc k)) h (next k h) ∙ ap (λ (n : ℕ). drop n xs) (add-one k)

  -- THE WALK AFTER K STEPS STANDS AT THE STEP OF RANK K
  pub walk_step : (k : ℕ) → k < length xs → (f k).step ≡ get_or xs k 0
  walk_step k h = (rank_step s pay (f k) xs k (walk_ahead k (omega arith)) h).1

  -- and after the last past it
  pub walk_end : Stands s pay (f (length xs)) → (f (length xs)).step ≡ no_step
  walk_end t = rank_end s pay (f (length xs)) xs (length xs) (walk_ahead (length xs) (omega arith)) t (omega arith)
