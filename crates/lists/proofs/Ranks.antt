-- Laws of a rising list by ranks: what stands before a rank, and the parts between two ranks.
-- Assumes nothing.
use mathlib.Core.Path.{◌≡◌, refl, sym, ap, ◌∙◌, subst}
use mathlib.Core.List.{List, ◌∷◌}
use Prim.Native.Nat.{ℕ, zero, suc, ◌+◌, ◌-◌, ◌≤◌, ◌<◌}
use native.Mathlib.Omega.{arith}
use native.Mathlib.Numerals.{add-one}
use lib.ListN.{length, get_or, take, drop, length-drop}
use lib.Seq.{drop-cons, take_all}
use Rattle.lists.specs.Rising.{Rising, beyond, past}
use Rattle.lists.specs.Parts.{part}
use Rattle.lists.proofs.Rising.{Rising-beyond, Rising-take}

module _ (xs : List ℕ) where
  pub past_suc : (i : ℕ) → (i ≡ 0 → ⊥) → past xs i ≡ get_or xs (i - 1) 0 + 1
  past_suc zero h = absurd (h refl)
  past_suc (suc i) h =
      let e : suc i - 1 ≡ i = omega arith in
      ap (λ (u : ℕ). get_or xs u 0 + 1) (sym e)

  pub past_next : (i : ℕ) → past xs (i + 1) ≡ get_or xs i 0 + 1
  past_next i = ap (past xs) (add-one i)

  past-take : (k i : ℕ) → i + k ≤ length xs → beyond (past xs i) (take k (drop i xs)) ≡ past xs (i + k)
  past-take zero i h = let z : i ≡ i + 0 = omega arith in ap (past xs) z
  past-take (suc k) i h =
      let q : suc i + k ≡ i + suc k = omega arith in
      ap (λ (l : List ℕ). beyond (past xs i) (take (suc k) l)) (drop-cons xs i 0 (omega arith))
      ∙ ap (λ (o : ℕ). beyond o (take k (drop (suc i) xs))) (sym (add-one (get_or xs i 0)))
      ∙ past-take k (suc i) (omega arith)
      ∙ ap (past xs) q

  -- a part ends where the next begins
  pub beyond-part : (i j : ℕ) → i ≤ j → j ≤ length xs → beyond (past xs i) (part xs i j) ≡ past xs j
  beyond-part i j h k =
      let q : i + (j - i) ≡ j = omega arith in
      past-take (j - i) i (omega arith) ∙ ap (past xs) q

  pub beyond-drop : (i : ℕ) → i ≤ length xs → beyond (past xs i) (drop i xs) ≡ past xs (length xs)
  beyond-drop i h =
      ap (beyond (past xs i)) (sym (take_all (length xs - i) (drop i xs) (omega (arith, length-drop i xs))))
      ∙ beyond-part i (length xs) h (omega arith)

  pub beyond-past : beyond 0 xs ≡ past xs (length xs)
  beyond-past = beyond-drop 0 (omega arith)

  pub Rising-drop : (i : ℕ) → i ≤ length xs → Rising 0 xs → Rising (past xs i) (drop i xs)
  Rising-drop zero h r = r
  Rising-drop (suc i) h r =
      let v : Rising (past xs i) (get_or xs i 0 ∷ drop (suc i) xs) = subst (Rising (past xs i)) (drop-cons xs i 0 (omega arith)) (Rising-drop i (omega arith) r) in
      subst (λ (o : ℕ). Rising o (drop (suc i) xs)) (sym (add-one (get_or xs i 0))) v.1

  pub rising_part : (i j : ℕ) → i ≤ length xs → Rising 0 xs → Rising (past xs i) (part xs i j)
  rising_part i j h r = Rising-take (j - i) (past xs i) (drop i xs) (Rising-drop i h r)

  -- an element is not below what stands before its rank
  pub past-get_or : (i : ℕ) → i < length xs → Rising 0 xs → past xs i ≤ get_or xs i 0
  past-get_or i h r = (subst (Rising (past xs i)) (drop-cons xs i 0 h) (Rising-drop i (omega arith) r)).0

  pub past-le : (i j : ℕ) → i ≤ j → j ≤ length xs → Rising 0 xs → past xs i ≤ past xs j
  past-le i j h k r = omega (arith, Rising-beyond (past xs i) (part xs i j) (rising_part i j (omega arith) r), beyond-part i j h k)

  pub past-lt : (i j : ℕ) → i < j → j ≤ length xs → Rising 0 xs → past xs i < past xs j
  past-lt i j h k r = omega (arith, past-get_or i (omega arith) r, past-le (suc i) j h k r)

  pub past-beyond : (i : ℕ) → i ≤ length xs → Rising 0 xs → past xs i ≤ beyond 0 xs
  past-beyond i h r = omega (arith, past-le i (length xs) h (omega arith) r, beyond-past)
