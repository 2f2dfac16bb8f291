-- Laws of gaps: a rising list and its gaps say each other.
-- Assumes nothing.
use mathlib.Core.Path.{◌≡◌, refl, ap}
use mathlib.Core.List.{List, [], ◌∷◌}
use Prim.Native.Nat.{ℕ, suc, ◌+◌, ◌-◌}
use native.Mathlib.Omega.{arith}
use lib.ListN.{length}
use Rattle.lists.specs.Rising.{Rising}
use Rattle.lists.specs.Gaps.{gaps, from_gaps}

pub length-gaps : (o : ℕ) (xs : List ℕ) → length (gaps o xs) ≡ length xs
length-gaps o [] = refl
length-gaps o (x ∷ xs) = ap suc (length-gaps (suc x) xs)

pub length-from_gaps : (o : ℕ) (vs : List ℕ) → length (from_gaps o vs) ≡ length vs
length-from_gaps o [] = refl
length-from_gaps o (v ∷ vs) = ap suc (length-from_gaps (suc (o + v)) vs)

pub from_gaps-gaps : (o : ℕ) (xs : List ℕ) → Rising o xs → from_gaps o (gaps o xs) ≡ xs
from_gaps-gaps o [] r = refl
from_gaps-gaps o (x ∷ xs) r =
    let q : o + (x - o) ≡ x = omega (arith, r.0) in
    rw q (ap (λ (l : List ℕ). x ∷ l) (from_gaps-gaps (suc x) xs r.1))

pub gaps-from_gaps : (o : ℕ) (vs : List ℕ) → gaps o (from_gaps o vs) ≡ vs
gaps-from_gaps o [] = refl
gaps-from_gaps o (v ∷ vs) =
    let q : o + v - o ≡ v = omega arith in
    rw q (ap (λ (l : List ℕ). v ∷ l) (gaps-from_gaps (suc (o + v)) vs))

pub Rising-from_gaps : (o : ℕ) (vs : List ℕ) → Rising o (from_gaps o vs)
Rising-from_gaps o [] = tt
Rising-from_gaps o (v ∷ vs) = (omega arith, Rising-from_gaps (suc (o + v)) vs)
