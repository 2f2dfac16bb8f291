-- A merge turn by turn: the lower of the two first steps is kept or not, and both lists go past it.
-- Assumes nothing.
use mathlib.Core.Path.{◌≡◌, refl, sym, ◌∙◌}
use mathlib.Core.List.{List, [], ◌∷◌}
use Prim.Native.Nat.{ℕ, suc, ◌≤◌, ◌<◌}
use native.Mathlib.Omega.{arith}
use native.Mathlib.Decide.{ℕ_discrete}
use lib.Dec.{eqb}
use borrow.Author.Tests.{eq-eqb, ne_eqb}
use Rattle.lists.specs.Rising.{Rising, beyond}
use Rattle.lists.specs.Members.{has}
use Rattle.lists.proofs.Rising.{Rising-beyond, Rising_weaken}
use Rattle.lists.proofs.Members.{has_none, has_here, has-past, has_below}
use Rattle.pair_operation.specs.declared.Operation.{Operation}
use Rattle.pair_operation.specs.Result.{keeps, result_of}
use Rattle.pair_operation.specs.Inside.Merge.{head_of, past_of, kept}
use Rattle.pair_operation.proofs.Turns.{result_turn, result_none}

-- steps from `o` on, in order, below `t`
pub record Below (o t : ℕ) (xs : List ℕ) : Type 0 where
  pub rising : Rising o xs
  pub small : beyond o xs ≤ t

module _ (t : ℕ) where
  pub head_none : (o : ℕ) (xs : List ℕ) → Below o t xs → t ≤ head_of t xs → xs ≡ []
  head_none o [] w h = refl
  head_none o (x ∷ xs) w h = absurd (omega (arith, Rising-beyond (suc x) xs w.rising.1, w.small))

  -- what is left past a step that is not above the first
  module _ (o m : ℕ) (h : m < t) where
    pub past_below : (xs : List ℕ) → Below o t xs → m ≤ head_of t xs → Below (suc m) t (past_of m xs)
    past_below [] w k = record { rising = tt; small = omega arith }
    past_below (x ∷ xs) w k = by (ℕ_discrete x m)
      where
        by : Dec (x ≡ m) → Below (suc m) t (past_of m (x ∷ xs))
        by (yes e) =
            let q : suc x ≡ suc m = omega arith in
            rw (eq-eqb x m e) (record { rising = rw q at w.rising.1; small = rw q at w.small })
        by (no e) = rw (ne_eqb x m e) (record { rising = (omega (arith, e), w.rising.1); small = w.small })

    past_has : (z : ℕ) (xs : List ℕ) → (z ≡ m → ⊥) → has z xs ≡ has z (past_of m xs)
    past_has z [] k = refl
    past_has z (x ∷ xs) k = by (ℕ_discrete x m)
      where
        by : Dec (x ≡ m) → has z (x ∷ xs) ≡ has z (past_of m (x ∷ xs))
        by (yes e) = rw (eq-eqb x m e) (has-past z x xs (λ q. k (omega arith)))
        by (no e) = rw (ne_eqb x m e)

    -- the step itself is there exactly where the list begins with it
    past_here : (xs : List ℕ) → Below o t xs → m ≤ head_of t xs → has m xs ≡ eqb (head_of t xs) m
    past_here [] w k = has_none m ∙ sym (ne_eqb t m (λ e. omega arith))
    past_here (x ∷ xs) w k = by (ℕ_discrete x m)
      where
        by : Dec (x ≡ m) → has m (x ∷ xs) ≡ eqb x m
        by (yes e) = has_here m x xs (sym e) ∙ sym (eq-eqb x m e)
        by (no e) = has_below m x (x ∷ xs) (omega arith, w.rising.1) (omega (arith, e)) ∙ sym (ne_eqb x m e)

    -- A TURN OF A MERGE
    pub merge_turn : (op : Operation) (xs ys : List ℕ) → Below o t xs → Below o t ys → m ≤ head_of t xs → m ≤ head_of t ys
        → result_of op xs ys ≡ kept (keeps op (eqb (head_of t xs) m) (eqb (head_of t ys) m)) m (result_of op (past_of m xs) (past_of m ys))
    merge_turn op xs ys w v hx hy =
        result_turn op m xs ys (past_of m xs) (past_of m ys) (Rising_weaken xs (omega arith) w.rising) (Rising_weaken ys (omega arith) v.rising)
        (past_below xs w hx).rising (past_below ys v hy).rising (λ z n. past_has z xs n) (λ z n. past_has z ys n)
        (keeps op (eqb (head_of t xs) m) (eqb (head_of t ys) m))
        (rw (past_here xs w hx, past_here ys v hy))

  -- and its end
  pub merge_end : (op : Operation) (o : ℕ) (xs ys : List ℕ) → Below o t xs → Below o t ys → t ≤ head_of t xs → t ≤ head_of t ys → result_of op xs ys ≡ []
  merge_end op o xs ys w v hx hy = rw (head_none o xs w hx, head_none o ys v hy) (result_none op)
