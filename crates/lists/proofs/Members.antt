-- Laws of members: what a list has, and that two rising lists with the same members are one list.
-- Assumes nothing.
use mathlib.Core.Path.{◌≡◌, refl, sym, ◌∙◌}
use mathlib.Core.Bool.{Bool, true, false, ◌||◌}
use mathlib.Core.List.{List, [], ◌∷◌, ◌++◌}
use Prim.Native.Nat.{ℕ, suc, ◌≤◌, ◌<◌}
use native.Mathlib.Omega.{arith}
use native.Mathlib.Decide.{dec_lt, ℕ_discrete}
use borrow.Author.Tests.{eq-eqb, ne_eqb}
use Rattle.lists.specs.Rising.{Rising, beyond}
use Rattle.lists.specs.Members.{has}
use Rattle.lists.proofs.Rising.{Rising-beyond}

pub has_none : (z : ℕ) → has z [] ≡ false
unfolding has
has_none z = refl

pub has_here : (z x : ℕ) (xs : List ℕ) → z ≡ x → has z (x ∷ xs) ≡ true
unfolding has
has_here z x xs e = rw (eq-eqb z x e)

pub has-past : (z x : ℕ) (xs : List ℕ) → (z ≡ x → ⊥) → has z (x ∷ xs) ≡ has z xs
unfolding has
has-past z x xs e = rw (ne_eqb z x e)

pub has-append : (z : ℕ) (xs ys : List ℕ) → has z (xs ++ ys) ≡ (has z xs || has z ys)
has-append z [] ys = rw (has_none z)
has-append z (x ∷ xs) ys = by (ℕ_discrete z x) (has-append z xs ys)
  where
    by : Dec (z ≡ x) → has z (xs ++ ys) ≡ (has z xs || has z ys) → has z (x ∷ (xs ++ ys)) ≡ (has z (x ∷ xs) || has z ys)
    by (yes e) ih = rw (has_here z x (xs ++ ys) e, has_here z x xs e)
    by (no e) ih = rw (has-past z x (xs ++ ys) e, has-past z x xs e) ih

-- what lies below where a list may begin, or beyond its end, is not there
pub has_below : (z o : ℕ) (xs : List ℕ) → Rising o xs → z < o → has z xs ≡ false
has_below z o [] r h = has_none z
has_below z o (x ∷ xs) r h = has-past z x xs (λ e. omega (arith, r.0)) ∙ has_below z (suc x) xs r.1 (omega (arith, r.0))

pub has-beyond : (z o : ℕ) (xs : List ℕ) → Rising o xs → beyond o xs ≤ z → has z xs ≡ false
has-beyond z o [] r h = has_none z
has-beyond z o (x ∷ xs) r h =
    has-past z x xs (λ e. omega (arith, Rising-beyond (suc x) xs r.1)) ∙ has-beyond z (suc x) xs r.1 h

true_false : {X : Type 0} (b : Bool) → b ≡ true → b ≡ false → X
true_false b p q = let z : ◌≡◌ {A = ℕ} 0 1 = cc in absurd (omega arith)

-- TWO RISING LISTS WITH THE SAME MEMBERS ARE ONE LIST
pub same_members : (o p : ℕ) (xs ys : List ℕ) → Rising o xs → Rising p ys → ((z : ℕ) → has z xs ≡ has z ys) → xs ≡ ys
same_members o p [] [] u v h = refl
same_members o p [] (y ∷ ys) u v h = true_false (has y (y ∷ ys)) (has_here y y ys refl) (sym (h y) ∙ has_none y)
same_members o p (x ∷ xs) [] u v h = true_false (has x (x ∷ xs)) (has_here x x xs refl) (h x ∙ has_none x)
same_members o p (x ∷ xs) (y ∷ ys) u v h = by (dec_lt x y) (dec_lt y x) (same_members (suc x) (suc y) xs ys u.1 v.1)
  where
    by : Dec (x < y) → Dec (y < x) → (((z : ℕ) → has z xs ≡ has z ys) → xs ≡ ys) → x ∷ xs ≡ y ∷ ys
    by (yes l) d ih = true_false (has x (x ∷ xs)) (has_here x x xs refl) (h x ∙ has_below x y (y ∷ ys) (omega arith, v.1) l)
    by (no l) (yes g) ih = true_false (has y (y ∷ ys)) (has_here y y ys refl) (sym (h y) ∙ has_below y x (x ∷ xs) (omega arith, u.1) g)
    by (no l) (no g) ih =
        let e : x ≡ y = omega arith in
        let r : xs ≡ ys = ih (λ z. tail z e (ℕ_discrete z x)) in
        cc
      where
        tail : (z : ℕ) → x ≡ y → Dec (z ≡ x) → has z xs ≡ has z ys
        tail z e (yes q) =
            has_below z (suc x) xs u.1 (omega arith) ∙ sym (has_below z (suc y) ys v.1 (omega arith))
        tail z e (no q) = sym (has-past z x xs q) ∙ h z ∙ has-past z y ys (λ r. q (omega arith))
