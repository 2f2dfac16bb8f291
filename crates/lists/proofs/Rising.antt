-- Laws of rising lists: their end, their length, appending, and parts of them.
-- Assumes nothing.
use mathlib.Core.Path.{◌≡◌, refl, ap, ◌∙◌}
use mathlib.Core.List.{List, [], ◌∷◌, ◌++◌, map}
use Prim.Native.Nat.{ℕ, zero, suc, ◌+◌, ◌-◌, ◌≤◌, ◌<◌}
use native.Mathlib.Omega.{arith}
use lib.ListN.{length, get_or, take}
use Rattle.lists.specs.Rising.{Rising, beyond}

pub Rising_weaken : {o p : ℕ} (xs : List ℕ) → o ≤ p → Rising p xs → Rising o xs
Rising_weaken [] h r = tt
Rising_weaken (x ∷ xs) h r = (omega (arith, r.0), r.1)

pub Rising-beyond : (o : ℕ) (xs : List ℕ) → Rising o xs → o ≤ beyond o xs
Rising-beyond o [] r = omega arith
Rising-beyond o (x ∷ xs) r = omega (arith, Rising-beyond (suc x) xs r.1, r.0)

pub Rising-length : (o : ℕ) (xs : List ℕ) → Rising o xs → o + length xs ≤ beyond o xs
Rising-length o [] r = omega arith
Rising-length o (x ∷ xs) r = omega (arith, Rising-length (suc x) xs r.1, r.0)

-- a list that ends where it may begin is empty
pub rising_none : (o : ℕ) (xs : List ℕ) → Rising o xs → beyond o xs ≤ o → xs ≡ []
rising_none o [] r h = refl
rising_none o (x ∷ xs) r h = absurd (omega (arith, Rising-beyond (suc x) xs r.1, r.0))

pub beyond-append : (o : ℕ) (xs ys : List ℕ) → beyond o (xs ++ ys) ≡ beyond (beyond o xs) ys
beyond-append o [] ys = refl
beyond-append o (x ∷ xs) ys = beyond-append (suc x) xs ys

pub beyond-le : {o p : ℕ} (xs : List ℕ) → o ≤ p → beyond o xs ≤ beyond p xs
beyond-le [] h = h
beyond-le (x ∷ xs) h = omega arith

-- a list with a last element
pub beyond-last : (o : ℕ) (xs : List ℕ) → 0 < length xs → beyond o xs ≡ get_or xs (length xs - 1) 0 + 1
beyond-last o [] h = absurd (omega arith)
beyond-last o (x ∷ []) h = omega arith
beyond-last o (x ∷ y ∷ ys) h =
    let p : suc (length ys) - 1 ≡ length ys = omega arith in
    let q : suc (suc (length ys)) - 1 ≡ suc (length ys) = omega arith in
    rw q (rw p at (beyond-last (suc x) (y ∷ ys) (omega arith)))

-- a list that is moved up ends as much later
pub beyond-map : (o p : ℕ) (xs : List ℕ) → beyond (o + p) (map (λ (x : ℕ). o + x) xs) ≡ o + beyond p xs
beyond-map o p [] = refl
beyond-map o p (x ∷ xs) =
    let q : suc (o + x) ≡ o + suc x = omega arith in
    ap (λ (p : ℕ). beyond p (map (λ (y : ℕ). o + y) xs)) q ∙ beyond-map o (suc x) xs

-- where the whole ends, its last part ends too, or had room
pub beyond_rest : (o n t : ℕ) (xs ys : List ℕ) → n ≤ t → beyond o (xs ++ ys) ≤ t → beyond n ys ≤ t
beyond_rest o n t xs [] h k = h
beyond_rest o n t xs (y ∷ ys) h k = rw (beyond-append o xs (y ∷ ys)) at k

pub Rising-append : (o : ℕ) (xs ys : List ℕ) → Rising o xs → Rising (beyond o xs) ys → Rising o (xs ++ ys)
Rising-append o [] ys r s = s
Rising-append o (x ∷ xs) ys r s = (r.0, Rising-append (suc x) xs ys r.1 s)

pub Rising_front : (o : ℕ) (xs ys : List ℕ) → Rising o (xs ++ ys) → Rising o xs
Rising_front o [] ys r = tt
Rising_front o (x ∷ xs) ys r = (r.0, Rising_front (suc x) xs ys r.1)

pub Rising_back : (o : ℕ) (xs ys : List ℕ) → Rising o (xs ++ ys) → Rising (beyond o xs) ys
Rising_back o [] ys r = r
Rising_back o (x ∷ xs) ys r = Rising_back (suc x) xs ys r.1

pub Rising-take : (k o : ℕ) (xs : List ℕ) → Rising o xs → Rising o (take k xs)
Rising-take zero o xs r = tt
Rising-take (suc k) o [] r = tt
Rising-take (suc k) o (x ∷ xs) r = (r.0, Rising-take k (suc x) xs r.1)

-- each element is below the end, and not below where the list may begin
pub Rising-get_or_below : (o : ℕ) (xs : List ℕ) (k : ℕ) → Rising o xs → k < length xs → get_or xs k 0 < beyond o xs
Rising-get_or_below o [] k r h = absurd (omega arith)
Rising-get_or_below o (x ∷ xs) zero r h = omega (arith, Rising-beyond (suc x) xs r.1)
Rising-get_or_below o (x ∷ xs) (suc k) r h = Rising-get_or_below (suc x) xs k r.1 (omega arith)

pub Rising-get_or_from : (o : ℕ) (xs : List ℕ) (k : ℕ) → Rising o xs → k < length xs → o + k ≤ get_or xs k 0
Rising-get_or_from o [] k r h = absurd (omega arith)
Rising-get_or_from o (x ∷ xs) zero r h = omega (arith, r.0)
Rising-get_or_from o (x ∷ xs) (suc k) r h = omega (arith, Rising-get_or_from (suc x) xs k r.1 (omega arith), r.0)
