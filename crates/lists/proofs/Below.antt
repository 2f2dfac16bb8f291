-- Laws of where a bound falls in a rising list.
-- Assumes nothing.
use mathlib.Core.Path.{◌≡◌, refl, sym, ap, ◌∙◌}
use mathlib.Core.List.{List, [], ◌∷◌, ◌++◌}
use Prim.Native.Nat.{ℕ, zero, suc, ◌+◌, ◌≤◌, ◌<◌}
use native.Mathlib.Omega.{arith}
use native.Mathlib.Decide.{dec_le}
use borrow.Author.Tests.{le-leb, lt-leb}
use lib.ListN.{length, get_or, drop}
use Rattle.lists.specs.Rising.{Rising, beyond}
use Rattle.lists.specs.Below.{below}
use Rattle.lists.proofs.Rising.{Rising-beyond}

pub below-nil : (x : ℕ) → below [] x ≡ 0
unfolding below
below-nil x = refl

pub below-here : (y : ℕ) (ys : List ℕ) (x : ℕ) → x ≤ y → below (y ∷ ys) x ≡ 0
unfolding below
below-here y ys x h = rw (le-leb x y h)

pub below-past : (y : ℕ) (ys : List ℕ) (x : ℕ) → y < x → below (y ∷ ys) x ≡ suc (below ys x)
unfolding below
below-past y ys x h = rw (lt-leb x y h)

-- by whether the first element reaches the bound
reach : {X : Type 0} (x y : ℕ) → (x ≤ y → X) → (y < x → X) → X
reach x y f g = elim (dec_le x y) [ yes h ↦ f h | no h ↦ g (omega arith) ]

pub below-le : (xs : List ℕ) (x : ℕ) → below xs x ≤ length xs
below-le [] x = omega (arith, below-nil x)
below-le (y ∷ ys) x =
    reach x y (λ h. omega (arith, below-here y ys x h)) (λ h. omega (arith, below-past y ys x h, below-le ys x))

-- elements that all reach the bound
pub below_none : (o : ℕ) (xs : List ℕ) (x : ℕ) → Rising o xs → x ≤ o → below xs x ≡ 0
below_none o [] x u h = below-nil x
below_none o (y ∷ ys) x u h = below-here y ys x (omega (arith, u.0))

-- elements that are all below the bound, and others after them
pub below-append : (o : ℕ) (xs ys : List ℕ) (x : ℕ) → Rising o xs → beyond o xs ≤ x → below (xs ++ ys) x ≡ length xs + below ys x
below-append o [] ys x u h = omega arith
below-append o (y ∷ xs) ys x u h =
    omega (arith, below-past y (xs ++ ys) x (omega (arith, Rising-beyond (suc y) xs u.1)), below-append (suc y) xs ys x u.1 h)

pub below_all : (o : ℕ) (xs : List ℕ) (x : ℕ) → Rising o xs → beyond o xs ≤ x → below xs x ≡ length xs
below_all o [] x u h = below-nil x
below_all o (y ∷ ys) x u h =
    omega (arith, below-past y ys x (omega (arith, Rising-beyond (suc y) ys u.1)), below_all (suc y) ys x u.1 h)

-- a bound that the last element reaches
pub below-lt : (o : ℕ) (xs : List ℕ) (x : ℕ) → o ≤ x → x < beyond o xs → below xs x < length xs
below-lt o [] x h k = absurd (omega arith)
below-lt o (y ∷ ys) x h k =
    reach x y (λ g. omega (arith, below-here y ys x g)) (λ g. omega (arith, below-past y ys x g, below-lt (suc y) ys x (omega arith) k))

-- the first of two lists has the answer
pub below_left : (xs ys : List ℕ) (x : ℕ) → below xs x < length xs → below (xs ++ ys) x ≡ below xs x
below_left [] ys x h = absurd (omega arith)
below_left (y ∷ xs) ys x h =
    reach x y (λ g. below-here y (xs ++ ys) x g ∙ sym (below-here y xs x g))
    (λ g.
    below-past y (xs ++ ys) x g ∙ ap suc (below_left xs ys x (omega (arith, below-past y xs x g))) ∙ sym (below-past y xs x g))

-- ---- what the number says: the elements before it are below the bound, and the one at it is not

pub below_under : (xs : List ℕ) (x j : ℕ) → j < below xs x → get_or xs j 0 < x
below_under [] x j h = absurd (omega (arith, below-nil x))
below_under (y ∷ ys) x j h = reach x y (λ g. absurd (omega (arith, below-here y ys x g))) (λ g. go j h g (λ i. below_under ys x i))
  where
    go : (i : ℕ) → i < below (y ∷ ys) x → y < x → ((n : ℕ) → n < below ys x → get_or ys n 0 < x) → get_or (y ∷ ys) i 0 < x
    go zero k g ih = g
    go (suc i) k g ih = ih i (omega (arith, below-past y ys x g))

pub below_reach : (xs : List ℕ) (x : ℕ) → below xs x < length xs → x ≤ get_or xs (below xs x) 0
below_reach [] x h = absurd (omega arith)
below_reach (y ∷ ys) x h =
    reach x y (λ g. rw (below-here y ys x g) g) (λ g. rw (below-past y ys x g) (below_reach ys x (omega (arith, below-past y ys x g))))

-- ---- from any rank on: up to the bound, and past it

pub below-drop : (xs : List ℕ) (k x : ℕ) → k ≤ below xs x → k + below (drop k xs) x ≡ below xs x
below-drop xs zero x h = omega arith
below-drop [] (suc k) x h = absurd (omega (arith, below-nil x))
below-drop (y ∷ ys) (suc k) x h =
    reach x y (λ g. absurd (omega (arith, below-here y ys x g)))
    (λ g. omega (arith, below-past y ys x g, below-drop ys k x (omega (arith, below-past y ys x g))))

pub below-drop_none : (o : ℕ) (xs : List ℕ) (k x : ℕ) → Rising o xs → below xs x ≤ k → below (drop k xs) x ≡ 0
below-drop_none o xs zero x u h = omega arith
below-drop_none o [] (suc k) x u h = below-nil x
below-drop_none o (y ∷ ys) (suc k) x u h =
    reach x y (λ g. below-drop_none (suc y) ys k x u.1 (omega (arith, below_none (suc y) ys x u.1 (omega arith))))
    (λ g. below-drop_none (suc y) ys k x u.1 (omega (arith, below-past y ys x g)))
