-- A turn of a merge: the result of an operation by the first steps of the two lists.
-- Assumes nothing.
use mathlib.Core.Path.{◌≡◌, refl, sym, ap, ◌∙◌}
use mathlib.Core.Bool.{Bool, true, false}
use mathlib.Core.List.{List, [], ◌∷◌}
use Prim.Native.Nat.{ℕ, suc, ◌<◌}
use native.Mathlib.Omega.{arith}
use native.Mathlib.Decide.{dec_lt, ℕ_discrete}
use Rattle.lists.specs.Rising.{Rising}
use Rattle.lists.specs.Members.{has}
use Rattle.lists.proofs.Rising.{Rising_weaken}
use Rattle.lists.proofs.Members.{has_here, has-past, has_below}
use Rattle.pair_operation.specs.declared.Operation.{Operation}
use Rattle.pair_operation.specs.Result.{keeps, sieve, result_of}
use Rattle.pair_operation.specs.Inside.Merge.{kept}
use Rattle.pair_operation.proofs.Result.{keeps_none, Result_one, Result_is, Rising_result, has_result}

-- a rising list that has nothing below `o` begins there at the earliest
pub Rising_from : (o : ℕ) (xs : List ℕ) → Rising 0 xs → ((z : ℕ) → z < o → has z xs ≡ false) → Rising o xs
Rising_from o [] r h = tt
Rising_from o (x ∷ xs) r h = elim (dec_lt x o) [ yes l ↦ absurd (apart (has x (x ∷ xs)) (has_here x x xs refl) (h x l)) | no l ↦ (omega arith, r.1) ]
  where
    apart : (b : Bool) → b ≡ true → b ≡ false → ⊥
    apart b p q = let z : ◌≡◌ {A = ℕ} 0 1 = cc in omega arith

pub Rising_result_from : (op : Operation) (o : ℕ) (xs ys : List ℕ) → Rising o xs → Rising o ys → Rising o (result_of op xs ys)
Rising_result_from op o xs ys u v =
    Rising_from o (result_of op xs ys) (Rising_result op xs ys)
    (λ z h.
    has_result op xs ys (Rising_weaken xs (omega arith) u) (Rising_weaken ys (omega arith) v) z
    ∙ ap (λ (b : Bool). keeps op b (has z ys)) (has_below z o xs u h)
    ∙ ap (λ (b : Bool). keeps op false b) (has_below z o ys v h)
    ∙ keeps_none op)

-- One turn, where `xs` and `ys` are what the lists `xs₀` and `ys₀` have past the step `m`, and nothing of either is below it.
module _ (op : Operation) (m : ℕ) (xs₀ ys₀ xs ys : List ℕ) (u₀ : Rising 0 xs₀) (v₀ : Rising 0 ys₀) (u : Rising (suc m) xs) (v : Rising (suc m) ys)
    (first : (z : ℕ) → (z ≡ m → ⊥) → has z xs₀ ≡ has z xs) (second : (z : ℕ) → (z ≡ m → ⊥) → has z ys₀ ≡ has z ys) where
  Rising_turn : (b : Bool) → Rising 0 (kept b m (result_of op xs ys))
  Rising_turn true = (omega arith, Rising_result_from op (suc m) xs ys u v)
  Rising_turn false = Rising_weaken (result_of op xs ys) (omega arith) (Rising_result_from op (suc m) xs ys u v)

  has_rest : (z : ℕ) → has z (result_of op xs ys) ≡ keeps op (has z xs) (has z ys)
  has_rest = has_result op xs ys (Rising_weaken xs (omega arith) u) (Rising_weaken ys (omega arith) v)

  has_turn : (b : Bool) → keeps op (has m xs₀) (has m ys₀) ≡ b → (z : ℕ)
      → has z (kept b m (result_of op xs ys)) ≡ keeps op (has z xs₀) (has z ys₀)
  has_turn b e z = by b e (ℕ_discrete z m)
    where
      other : (z ≡ m → ⊥) → has z (result_of op xs ys) ≡ keeps op (has z xs₀) (has z ys₀)
      other n = has_rest z ∙ rw (first z n, second z n)

      by : (c : Bool) → keeps op (has m xs₀) (has m ys₀) ≡ c → Dec (z ≡ m) → has z (kept c m (result_of op xs ys)) ≡ keeps op (has z xs₀) (has z ys₀)
      by true q (yes d) = has_here z m (result_of op xs ys) d ∙ sym q ∙ ap (λ (w : ℕ). keeps op (has w xs₀) (has w ys₀)) (sym d)
      by true q (no d) = has-past z m (result_of op xs ys) d ∙ other d
      by false q (yes d) =
          has_below z (suc m) (result_of op xs ys) (Rising_result_from op (suc m) xs ys u v) (omega arith)
          ∙ sym q
          ∙ ap (λ (w : ℕ). keeps op (has w xs₀) (has w ys₀)) (sym d)
      by false q (no d) = other d

  -- what the operation says of the step itself, and then the result of what is left
  pub result_turn : (b : Bool) → keeps op (has m xs₀) (has m ys₀) ≡ b → result_of op xs₀ ys₀ ≡ kept b m (result_of op xs ys)
  result_turn b e =
      Result_one op xs₀ ys₀ (result_of op xs₀ ys₀) (kept b m (result_of op xs ys)) (Result_is op xs₀ ys₀ u₀ v₀)
      (record { rising = Rising_turn b; members = has_turn b e })

pub result_none : (op : Operation) → result_of op [] [] ≡ []
unfolding result_of sieve
result_none op = refl

-- ---- how many steps
