-- The result of an operation on two rising lists is the set that the operation names, in order, and no other rising list is; it ends no later
-- than they do, and has no more steps than there are places up to there.
-- Assumes nothing.
use mathlib.Core.Path.{◌≡◌, refl, sym, ap, ◌∙◌}
use mathlib.Core.Bool.{Bool, true, false}
use mathlib.Core.List.{List, ◌∷◌}
use Prim.Native.Nat.{ℕ, zero, suc, ◌+◌, ◌≤◌, ◌<◌, max}
use native.Mathlib.Omega.{arith}
use native.Mathlib.Decide.{ℕ_discrete}
use lib.ListN.{length}
use Rattle.lists.specs.Choice.{pick}
use Rattle.lists.specs.Rising.{Rising, beyond}
use Rattle.lists.specs.Members.{has}
use Rattle.lists.proofs.Choice.{by_lt}
use Rattle.lists.proofs.Rising.{Rising_weaken, Rising-length}
use Rattle.lists.proofs.Members.{has_here, has-past, has_below, has-beyond, same_members}
use Rattle.rules.specs.Limits.{most_steps}
use Rattle.rules.specs.Listed.{Listed}
use Rattle.pair_operation.specs.declared.Operation.{Operation}
use Rattle.pair_operation.specs.declared.Operation.TheVariants.{Both, Either, Without}
use Rattle.pair_operation.specs.Result.{keeps, sieve, result_of}

-- what neither has is not kept
pub keeps_none : (op : Operation) → keeps op false false ≡ false
keeps_none Both = refl
keeps_none Either = refl
keeps_none Without = refl

-- ---- sieves

pub Rising-sieve : (k o : ℕ) (p : ℕ → Bool) → Rising o (sieve k o p)
unfolding sieve
Rising-sieve zero o p = tt
Rising-sieve (suc k) o p = by (p o) (Rising-sieve k (suc o) p)
  where
    by : (b : Bool) → Rising (suc o) (sieve k (suc o) p) → Rising o (pick b (o ∷ sieve k (suc o) p) (sieve k (suc o) p))
    by true r = (omega arith, r)
    by false r = Rising_weaken (sieve k (suc o) p) (omega arith) r

-- a sieve ends where its numbers do, at the latest
pub beyond-sieve : (k o n t : ℕ) (p : ℕ → Bool) → n ≤ t → o + k ≤ t → beyond n (sieve k o p) ≤ t
unfolding sieve
beyond-sieve zero o n t p g h = g
beyond-sieve (suc k) o n t p g h =
    by (p o) (beyond-sieve k (suc o) (suc o) t p (omega arith) (omega arith)) (beyond-sieve k (suc o) n t p g (omega arith))
  where
    by : (b : Bool) → beyond (suc o) (sieve k (suc o) p) ≤ t → beyond n (sieve k (suc o) p) ≤ t
        → beyond n (pick b (o ∷ sieve k (suc o) p) (sieve k (suc o) p)) ≤ t
    by true x y = x
    by false x y = y

-- a sieve has the numbers that pass
pub has-sieve : (k o : ℕ) (p : ℕ → Bool) (z : ℕ) → o ≤ z → z < o + k → has z (sieve k o p) ≡ p z
unfolding sieve
has-sieve zero o p z g h = absurd (omega arith)
has-sieve (suc k) o p z g h = by (p o) refl (ℕ_discrete z o) (λ e. has-sieve k (suc o) p z (omega (arith, e)) (omega arith))
  where
    none : z ≡ o → has z (sieve k (suc o) p) ≡ false
    none e = has_below z (suc o) (sieve k (suc o) p) (Rising-sieve k (suc o) p) (omega arith)

    by : (b : Bool) → p o ≡ b → Dec (z ≡ o) → ((z ≡ o → ⊥) → has z (sieve k (suc o) p) ≡ p z)
        → has z (pick b (o ∷ sieve k (suc o) p) (sieve k (suc o) p)) ≡ p z
    by true q (yes e) ih = has_here z o (sieve k (suc o) p) e ∙ sym q ∙ ap p (sym e)
    by true q (no e) ih = has-past z o (sieve k (suc o) p) e ∙ ih e
    by false q (yes e) ih = none e ∙ sym q ∙ ap p (sym e)
    by false q (no e) ih = ih e

-- ---- results

-- `zs` is the set that the operation names, in order
pub record Result (op : Operation) (xs ys zs : List ℕ) : Type 0 where
  pub rising : Rising 0 zs
  pub members : (z : ℕ) → has z zs ≡ keeps op (has z xs) (has z ys)

-- two such lists are one
pub Result_one : (op : Operation) (xs ys zs ws : List ℕ) → Result op xs ys zs → Result op xs ys ws → zs ≡ ws
Result_one op xs ys zs ws r s = same_members 0 0 zs ws r.rising s.rising (λ z. r.members z ∙ sym (s.members z))

pub Rising_result : (op : Operation) (xs ys : List ℕ) → Rising 0 (result_of op xs ys)
unfolding result_of
Rising_result op xs ys = Rising-sieve _ 0 _

pub beyond_result : (op : Operation) (xs ys : List ℕ) (t : ℕ) → beyond 0 xs ≤ t → beyond 0 ys ≤ t → beyond 0 (result_of op xs ys) ≤ t
unfolding result_of
beyond_result op xs ys t h g = beyond-sieve _ 0 0 t _ (omega arith) (omega arith)

pub length_result : (op : Operation) (xs ys : List ℕ) (t : ℕ) → beyond 0 xs ≤ t → beyond 0 ys ≤ t → length (result_of op xs ys) ≤ t
length_result op xs ys t h g = omega (arith, Rising-length 0 (result_of op xs ys) (Rising_result op xs ys), beyond_result op xs ys t h g)

-- THE RESULT HAS WHAT THE OPERATION KEEPS
pub has_result : (op : Operation) (xs ys : List ℕ) → Rising 0 xs → Rising 0 ys → (z : ℕ)
    → has z (result_of op xs ys) ≡ keeps op (has z xs) (has z ys)
unfolding result_of
has_result op xs ys u v z = by_lt z top (λ h. has-sieve top 0 p z (omega arith) (omega arith)) late
  where
    top : ℕ
    top = max (beyond 0 xs) (beyond 0 ys)

    p : ℕ → Bool
    p z = keeps op (has z xs) (has z ys)

    late : top ≤ z → has z (sieve top 0 p) ≡ keeps op (has z xs) (has z ys)
    late h =
        has-beyond z 0 (sieve top 0 p) (Rising-sieve top 0 p) (omega (arith, beyond-sieve top 0 0 top p (omega arith) (omega arith)))
        ∙ sym
        (ap (λ (b : Bool). keeps op b (has z ys)) (has-beyond z 0 xs u (omega arith))
        ∙ ap (λ (b : Bool). keeps op false b) (has-beyond z 0 ys v (omega arith))
        ∙ keeps_none op)

pub Result_is : (op : Operation) (xs ys : List ℕ) → Rising 0 xs → Rising 0 ys → Result op xs ys (result_of op xs ys)
Result_is op xs ys u v = record { rising = Rising_result op xs ys; members = has_result op xs ys u v }

-- and it is one of document 01's lists if the two are and it has few enough steps
pub result_Listed : (op : Operation) {xs ys : List ℕ} → Listed xs → Listed ys → length (result_of op xs ys) ≤ most_steps → Listed (result_of op xs ys)
result_Listed op {xs} {ys} l m few =
    record { rising = Rising_result op xs ys; small = beyond_result op xs ys _ l.small m.small; few = few }
