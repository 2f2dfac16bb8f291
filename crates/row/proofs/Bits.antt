-- Laws of the ones among some bits: one bit at a time, where they stand, how many there are, the lowest and the highest of them, and
-- two numbers side by side.
-- Assumes nothing.
use mathlib.Core.Path.{◌≡◌, refl, sym, ap, ◌∙◌, subst}
use mathlib.Core.List.{List, [], ◌∷◌, ◌++◌, map, append-nil}
use Prim.Native.Nat.{ℕ, zero, suc, ◌+◌, ◌-◌, ◌*◌, ◌/◌, ◌%◌, ◌^◌, ◌≤◌, ◌<◌, min}
use native.Mathlib.Omega.{arith}
use native.Mathlib.Decide.{ℕ_discrete}
use native.Mathlib.Nat.{pow-succ', mul_comm, mul_assoc, mod-lt, div-add-mod'}
use borrow.Author.Tests.{eq-eqb, ne_eqb}
use lib.Bits.{bit_and, and_step, and_self}
use lib.Pow.{pow_pos, pow_mono}
use lib.Count.{ones, ones_step, ones-ones, count_trailing_zeros, under}
use lib.ListN.{length, length-map}
use Rattle.lists.specs.Rising.{Rising, beyond}
use Rattle.lists.specs.Below.{below}
use Rattle.lists.proofs.Rising.{Rising_weaken, Rising-beyond, Rising-length, Rising-append, beyond-le, beyond_rest}
use Rattle.lists.proofs.Below.{below_none, below-past}
use Rattle.row.specs.Row.{bits_from}

-- ---- one bit at a time

pub bits_none : (o v : ℕ) → bits_from 0 o v ≡ []
unfolding bits_from
bits_none o v = refl

pub bits_odd : (k o v : ℕ) → v % 2 ≡ 1 → bits_from (suc k) o v ≡ o ∷ bits_from k (suc o) (v / 2)
unfolding bits_from
bits_odd k o v e = rw (eq-eqb (v % 2) 1 e)

pub bits_even : (k o v : ℕ) → (v % 2 ≡ 1 → ⊥) → bits_from (suc k) o v ≡ bits_from k (suc o) (v / 2)
unfolding bits_from
bits_even k o v e = rw (ne_eqb (v % 2) 1 e)

pub bits_zero : (k o : ℕ) → bits_from k o 0 ≡ []
unfolding bits_from
bits_zero zero o = refl
bits_zero (suc k) o = bits_zero k (suc o)

-- by the lowest bit
pub by_bit : {X : Type 0} (v : ℕ) → (v % 2 ≡ 1 → X) → ((v % 2 ≡ 1 → ⊥) → X) → X
by_bit v f g = elim (ℕ_discrete (v % 2) 1) [ yes h ↦ f h | no h ↦ g h ]

bits_double : (k o h : ℕ) → bits_from (suc k) o (2 * h) ≡ bits_from k (suc o) h
bits_double k o h =
    let q : 2 * h / 2 ≡ h = omega arith in
    bits_even k o (2 * h) (λ e. omega arith) ∙ ap (bits_from k (suc o)) q

half : (k v : ℕ) → v < 2 ^ suc k → v / 2 < 2 ^ k
half k v h = let q : 2 ^ suc k ≡ 2 * 2 ^ k = pow-succ' 2 k in omega arith

-- ---- where they stand

pub bits_moved : (k o p v : ℕ) → bits_from k (o + p) v ≡ map (λ (x : ℕ). o + x) (bits_from k p v)
bits_moved zero o p v = bits_none (o + p) v ∙ ap (map (λ (x : ℕ). o + x)) (sym (bits_none p v))
bits_moved (suc k) o p v =
    let q : suc (o + p) ≡ o + suc p = omega arith in
    let ih : bits_from k (suc (o + p)) (v / 2) ≡ map (λ (x : ℕ). o + x) (bits_from k (suc p) (v / 2)) =
    ap (λ (n : ℕ). bits_from k n (v / 2)) q ∙ bits_moved k o (suc p) (v / 2)
    in
    by_bit v
    (λ e. bits_odd k (o + p) v e ∙ ap (λ (l : List ℕ). (o + p) ∷ l) ih ∙ ap (map (λ (x : ℕ). o + x)) (sym (bits_odd k p v e)))
    (λ e. bits_even k (o + p) v e ∙ ih ∙ ap (map (λ (x : ℕ). o + x)) (sym (bits_even k p v e)))

pub Rising_bits : (k o v : ℕ) → Rising o (bits_from k o v)
Rising_bits zero o v = rw (bits_none o v) tt
Rising_bits (suc k) o v =
    by_bit v (λ e. rw (bits_odd k o v e) (omega arith, Rising_bits k (suc o) (v / 2)))
    (λ e. rw (bits_even k o v e) (Rising_weaken (bits_from k (suc o) (v / 2)) (omega arith) (Rising_bits k (suc o) (v / 2))))

pub beyond_bits : (k o v : ℕ) → beyond o (bits_from k o v) ≤ o + k
beyond_bits zero o v = omega (arith, ap (beyond o) (bits_none o v))
beyond_bits (suc k) o v =
    let m : beyond o (bits_from k (suc o) (v / 2)) ≤ beyond (suc o) (bits_from k (suc o) (v / 2)) = beyond-le (bits_from k (suc o) (v / 2)) (omega arith) in
    by_bit v (λ e. omega (arith, ap (beyond o) (bits_odd k o v e), beyond_bits k (suc o) (v / 2)))
    (λ e. omega (arith, ap (beyond o) (bits_even k o v e), m, beyond_bits k (suc o) (v / 2)))

-- more steps after them, which begin where the bits end
pub Rising_bits_on : (k o v : ℕ) (rest : List ℕ) → Rising (o + k) rest → Rising o (bits_from k o v ++ rest)
Rising_bits_on k o v rest u =
    Rising-append o (bits_from k o v) rest (Rising_bits k o v) (Rising_weaken rest (beyond_bits k o v) u)

-- ---- how many there are

length_bits : (k o v : ℕ) → length (bits_from (suc k) o v) ≡ v % 2 + length (bits_from k (suc o) (v / 2))
length_bits k o v =
    by_bit v (λ e. ap length (bits_odd k o v e) ∙ omega arith) (λ e. ap length (bits_even k o v e) ∙ omega arith)

pub length_bits_most : (k o v : ℕ) → length (bits_from k o v) ≤ k
length_bits_most k o v = omega (arith, Rising-length o (bits_from k o v) (Rising_bits k o v), beyond_bits k o v)

pub length_bits_moved : (k o v : ℕ) → length (bits_from k o v) ≡ length (bits_from k 0 v)
length_bits_moved k o v =
    let z : o ≡ o + 0 = omega arith in
    ap (λ (p : ℕ). length (bits_from k p v)) z ∙ ap length (bits_moved k o 0 v) ∙ length-map (bits_from k 0 v) (λ (x : ℕ). o + x)

ones_zero : ones 0 ≡ 0
unfolding ones
ones_zero = refl

-- the machine's count of ones
pub ones_bits : (k o v : ℕ) → v < 2 ^ k → ones v ≡ length (bits_from k o v)
ones_bits zero o v h =
    let z : v ≡ 0 = omega arith in
    ap ones z ∙ ones_zero ∙ sym (ap length (bits_none o v))
ones_bits (suc k) o v h = omega (arith, length_bits k o v, ones_bits k (suc o) (v / 2) (half k v h), ones_step v)

-- more bits, which are all 0, add none
pub length_bits_wide : (j k o v : ℕ) → v < 2 ^ j → v < 2 ^ k → length (bits_from j o v) ≡ length (bits_from k o v)
length_bits_wide j k o v h g = sym (ones_bits j o v h) ∙ ones_bits k o v g

-- the ones below a bound that falls into the bits
pub below_bits : (k t o v : ℕ) (rest : List ℕ) → t ≤ k → Rising (o + k) rest
    → below (bits_from k o v ++ rest) (o + t) ≡ length (bits_from t o v)
below_bits k zero o v rest h u =
    below_none o (bits_from k o v ++ rest) (o + 0) (Rising_bits_on k o v rest u) (omega arith) ∙ sym (ap length (bits_none o v))
below_bits zero (suc t) o v rest h u = absurd (omega arith)
below_bits (suc k) (suc t) o v rest h u =
    let q : o + suc k ≡ suc o + k = omega arith in
    let r : o + suc t ≡ suc o + t = omega arith in
    let ih : below (bits_from k (suc o) (v / 2) ++ rest) (suc o + t) ≡ length (bits_from t (suc o) (v / 2)) =
    below_bits k t (suc o) (v / 2) rest (omega arith) (subst (λ (n : ℕ). Rising n rest) q u)
    in
    rw r
    (by_bit v
    (λ e.
    ap (λ (l : List ℕ). below (l ++ rest) (suc o + t)) (bits_odd k o v e)
    ∙ below-past o (bits_from k (suc o) (v / 2) ++ rest) (suc o + t) (omega arith)
    ∙ ap suc ih
    ∙ sym (ap length (bits_odd t o v e)))
    (λ e. ap (λ (l : List ℕ). below (l ++ rest) (suc o + t)) (bits_even k o v e) ∙ ih ∙ sym (ap length (bits_even t o v e))))

-- ---- the lowest and the highest of them

-- where the lowest is taken away, the others are left
pub bits_lowest : (k o v : ℕ) → 0 < v → v < 2 ^ k → bits_from k o v ≡ (o + count_trailing_zeros k v) ∷ bits_from k o (bit_and v (v - 1))
unfolding count_trailing_zeros
bits_lowest zero o v p h = absurd (omega arith)
bits_lowest (suc k) o v p h = by (v % 2) refl (λ g. bits_lowest k (suc o) (v / 2) g (half k v h))
  where
    by : (r : ℕ) → v % 2 ≡ r
        → (0 < v / 2 → bits_from k (suc o) (v / 2) ≡ (suc o + count_trailing_zeros k (v / 2)) ∷ bits_from k (suc o) (bit_and (v / 2) (v / 2 - 1)))
        → bits_from (suc k) o v ≡ (o + under r (count_trailing_zeros k (v / 2))) ∷ bits_from (suc k) o (bit_and v (v - 1))
    by zero e ih =
        let a : (v - 1) / 2 ≡ v / 2 - 1 = omega arith in
        let c : bit_and v (v - 1) ≡ 2 * bit_and (v / 2) (v / 2 - 1) =
        and_step v (v - 1) ∙ ap (λ (n : ℕ). bit_and (v / 2) n * 2 + min (v % 2) ((v - 1) % 2)) a ∙ omega arith
        in
        let y : suc o + count_trailing_zeros k (v / 2) ≡ o + suc (count_trailing_zeros k (v / 2)) = omega arith in
        bits_even k o v (λ r. omega arith)
        ∙ ih (omega arith)
        ∙ ap (λ (n : ℕ). n ∷ bits_from k (suc o) (bit_and (v / 2) (v / 2 - 1))) y
        ∙ ap (λ (l : List ℕ). (o + suc (count_trailing_zeros k (v / 2))) ∷ l) (sym (ap (bits_from (suc k) o) c ∙ bits_double k o (bit_and (v / 2) (v / 2 - 1))))
    by (suc r) e ih =
        let a : (v - 1) / 2 ≡ v / 2 = omega arith in
        let c : bit_and v (v - 1) ≡ 2 * (v / 2) =
        and_step v (v - 1)
        ∙ ap (λ (n : ℕ). bit_and (v / 2) n * 2 + min (v % 2) ((v - 1) % 2)) a
        ∙ ap (λ (n : ℕ). n * 2 + min (v % 2) ((v - 1) % 2)) (and_self (v / 2))
        ∙ omega arith
        in
        let y : o ≡ o + 0 = omega arith in
        bits_odd k o v (omega arith)
        ∙ ap (λ (n : ℕ). n ∷ bits_from k (suc o) (v / 2)) y
        ∙ ap (λ (l : List ℕ). (o + 0) ∷ l) (sym (ap (bits_from (suc k) o) c ∙ bits_double k o (v / 2)))

-- where all of them end by `e`, so do the lowest and those that are left
module _ (k o v e : ℕ) (p : 0 < v) (h : v < 2 ^ k) (l : beyond o (bits_from k o v) ≤ e) where
  rest : List ℕ
  rest = bits_from k o (bit_and v (v - 1))

  parts : Rising o ((o + count_trailing_zeros k v) ∷ rest) × (beyond o ((o + count_trailing_zeros k v) ∷ rest) ≤ e)
  unfolding rest
  parts = subst (λ (xs : List ℕ). Rising o xs × (beyond o xs ≤ e)) (bits_lowest k o v p h) (Rising_bits k o v, l)

  pub lowest_below : o + count_trailing_zeros k v < e
  lowest_below = omega (arith, Rising-beyond (suc (o + count_trailing_zeros k v)) rest parts.0.1, parts.1)

  pub beyond_rest_bits : beyond o (bits_from k o (bit_and v (v - 1))) ≤ e
  unfolding rest
  beyond_rest_bits = beyond_rest o o e ((o + count_trailing_zeros k v) ∷ []) rest (omega (arith, lowest_below)) parts.1

-- the highest is at place `j`
pub beyond_highest : (k o p j v : ℕ) → j < k → 2 ^ j ≤ v → v < 2 ^ suc j → beyond p (bits_from k o v) ≡ o + suc j
beyond_highest zero o p j v h l g = absurd (omega arith)
beyond_highest (suc k) o p zero v h l g =
    let z : v / 2 ≡ 0 = omega arith in
    ap (beyond p) (bits_odd k o v (omega arith) ∙ ap (λ (n : ℕ). o ∷ bits_from k (suc o) n) z ∙ ap (λ (r : List ℕ). o ∷ r) (bits_zero k (suc o)))
    ∙ omega arith
beyond_highest (suc k) o p (suc j) v h l g =
    let q : 2 ^ suc j ≡ 2 * 2 ^ j = pow-succ' 2 j in
    let w : v / 2 < 2 ^ suc j = half (suc j) v g in
    let u : 2 ^ j ≤ v / 2 = omega arith in
    by_bit v (λ e. ap (beyond p) (bits_odd k o v e) ∙ beyond_highest k (suc o) (suc o) j (v / 2) (omega arith) u w ∙ omega arith)
    (λ e. ap (beyond p) (bits_even k o v e) ∙ beyond_highest k (suc o) p j (v / 2) (omega arith) u w ∙ omega arith)

-- ---- two numbers side by side

pub bits_join : (j k o a b : ℕ) → a < 2 ^ j → bits_from (j + k) o (a + 2 ^ j * b) ≡ bits_from j o a ++ bits_from k (o + j) b
bits_join zero k o a b h =
    let z : a + 2 ^ 0 * b ≡ b = omega arith in
    let y : 0 + k ≡ k = omega arith in
    let x : o ≡ o + 0 = omega arith in
    rw (z, y, bits_none o a) (ap (λ (n : ℕ). bits_from k n b) x)
bits_join (suc j) k o a b h =
    let p : 2 ^ suc j * b ≡ 2 * (2 ^ j * b) = ap (λ (n : ℕ). n * b) (pow-succ' 2 j) ∙ mul_assoc 2 (2 ^ j) b in
    let m : (a + 2 ^ suc j * b) % 2 ≡ a % 2 = omega arith in
    let d : (a + 2 ^ suc j * b) / 2 ≡ a / 2 + 2 ^ j * b = omega arith in
    let y : suc j + k ≡ suc (j + k) = omega arith in
    let x : suc o + j ≡ o + suc j = omega arith in
    let ih : bits_from (j + k) (suc o) ((a + 2 ^ suc j * b) / 2) ≡ bits_from j (suc o) (a / 2) ++ bits_from k (o + suc j) b =
    ap (bits_from (j + k) (suc o)) d
    ∙ bits_join j k (suc o) (a / 2) b (half j a h)
    ∙ ap (λ (n : ℕ). bits_from j (suc o) (a / 2) ++ bits_from k n b) x
    in
    ap (λ (n : ℕ). bits_from n o (a + 2 ^ suc j * b)) y
    ∙ by_bit a
    (λ e.
    bits_odd (j + k) o (a + 2 ^ suc j * b) (m ∙ e)
    ∙ ap (λ (l : List ℕ). o ∷ l) ih
    ∙ ap (λ (l : List ℕ). l ++ bits_from k (o + suc j) b) (sym (bits_odd j o a e)))
    (λ e.
    bits_even (j + k) o (a + 2 ^ suc j * b) (λ r. e (sym m ∙ r))
    ∙ ih
    ∙ ap (λ (l : List ℕ). l ++ bits_from k (o + suc j) b) (sym (bits_even j o a e)))

-- the lowest bits
bits_low : (t o v : ℕ) → bits_from t o v ≡ bits_from t o (v % 2 ^ t)
bits_low t o v =
    let a : ℕ = v % 2 ^ t in
    let b : ℕ = v / 2 ^ t in
    let q : v ≡ a + 2 ^ t * b = omega (arith, div-add-mod' v (2 ^ t), mul_comm b (2 ^ t)) in
    let z : t ≡ t + 0 = omega arith in
    ap (bits_from t o) q
    ∙ ap (λ (n : ℕ). bits_from n o (a + 2 ^ t * b)) z
    ∙ bits_join t 0 o a b (mod-lt v (pow_pos t))
    ∙ ap (λ (l : List ℕ). bits_from t o a ++ l) (bits_none (o + t) b)
    ∙ append-nil (bits_from t o a)

pub length_bits_low : (t k o v : ℕ) → t ≤ k → length (bits_from t o v) ≡ length (bits_from k o (v % 2 ^ t))
length_bits_low t k o v h =
    let l : v % 2 ^ t < 2 ^ t = mod-lt v (pow_pos t) in
    let m : 2 ^ t ≤ 2 ^ k = pow_mono h in
    ap length (bits_low t o v) ∙ length_bits_wide t k o (v % 2 ^ t) l (omega arith)

-- ---- bits that are all 1

full_double : (k : ℕ) → 2 ^ suc k - 1 ≡ 1 + 2 * (2 ^ k - 1)
full_double k = omega (arith, pow-succ' 2 k, pow_pos k)

bits_full : (k o : ℕ) → bits_from (suc k) o (2 ^ suc k - 1) ≡ o ∷ bits_from k (suc o) (2 ^ k - 1)
bits_full k o =
    let q : (1 + 2 * (2 ^ k - 1)) / 2 ≡ 2 ^ k - 1 = omega arith in
    ap (bits_from (suc k) o) (full_double k)
    ∙ bits_odd k o (1 + 2 * (2 ^ k - 1)) (omega arith)
    ∙ ap (λ (n : ℕ). o ∷ bits_from k (suc o) n) q

pub length_full : (k o v : ℕ) → v ≡ 2 ^ k - 1 → length (bits_from k o v) ≡ k
length_full k o v e = sym (ones_bits k o v (omega (arith, pow_pos k))) ∙ ap ones e ∙ ones-ones k

-- from place `i` on, of `n`
pub full_turn : (n i o : ℕ) → i < n → bits_from (n - i) (o + i) (2 ^ (n - i) - 1) ≡ (o + i) ∷ bits_from (n - (i + 1)) (o + (i + 1)) (2 ^ (n - (i + 1)) - 1)
full_turn n i o h =
    let q : n - i ≡ suc (n - (i + 1)) = omega arith in
    let r : suc (o + i) ≡ o + (i + 1) = omega arith in
    ap (λ (k : ℕ). bits_from k (o + i) (2 ^ k - 1)) q
    ∙ bits_full (n - (i + 1)) (o + i)
    ∙ ap (λ (p : ℕ). (o + i) ∷ bits_from (n - (i + 1)) p (2 ^ (n - (i + 1)) - 1)) r

pub full_end : (n i o : ℕ) → n ≤ i → bits_from (n - i) (o + i) (2 ^ (n - i) - 1) ≡ []
full_end n i o h =
    let q : n - i ≡ 0 = omega arith in
    ap (λ (k : ℕ). bits_from k (o + i) (2 ^ k - 1)) q ∙ bits_none (o + i) 0
