-- The ones of a number in two parts, and of a word whose lowest bits are 0.
-- Assumes nothing.
use mathlib.Core.Path.{◌≡◌, sym, ap, ◌∙◌, subst}
use mathlib.Core.List.{List, [], ◌∷◌, ◌++◌, append-nil}
use Prim.Native.Nat.{ℕ, ◌+◌, ◌-◌, ◌*◌, ◌/◌, ◌%◌, ◌^◌, ◌≤◌, ◌<◌}
use native.Mathlib.Omega.{arith}
use native.Mathlib.Nat.{mul_comm, mod-lt, mod-eq_of_lt, div-add-mod'}
use lib.Bits.{bit_and}
use lib.Pow.{pow_pos, shr_lt}
use lib.Count.{count_trailing_zeros}
use Rattle.lists.specs.Rising.{Rising}
use Rattle.lists.proofs.Rising.{rising_none, Rising_front, beyond_rest}
use Rattle.row.specs.Row.{bits_from}
use Rattle.row.specs.Words.{word_bits}
use Rattle.row.proofs.Bits.{bits_zero, Rising_bits, beyond_bits, bits_lowest, lowest_below, bits_join}

-- ---- a number in two parts

-- the bits from `t` on, with zeros below them
pub bits_above : (k t o b : ℕ) → t ≤ k → bits_from k o (b * 2 ^ t) ≡ bits_from (k - t) (o + t) b
bits_above k t o b h =
    let q : k ≡ t + (k - t) = omega arith in
    let z : b * 2 ^ t ≡ 0 + 2 ^ t * b = omega (arith, mul_comm b (2 ^ t)) in
    ap (λ (n : ℕ). bits_from n o (b * 2 ^ t)) q
    ∙ ap (bits_from (t + (k - t)) o) z
    ∙ bits_join t (k - t) o 0 b (pow_pos t)
    ∙ ap (λ (l : List ℕ). l ++ bits_from (k - t) (o + t) b) (bits_zero t o)

pub bits_split : (k t o v : ℕ) → t ≤ k → bits_from k o v ≡ bits_from t o (v % 2 ^ t) ++ bits_from k o (v / 2 ^ t * 2 ^ t)
bits_split k t o v h =
    let a : ℕ = v % 2 ^ t in
    let b : ℕ = v / 2 ^ t in
    let q : k ≡ t + (k - t) = omega arith in
    let z : v ≡ a + 2 ^ t * b = omega (arith, div-add-mod' v (2 ^ t), mul_comm b (2 ^ t)) in
    ap (λ (n : ℕ). bits_from n o v) q
    ∙ ap (bits_from (t + (k - t)) o) z
    ∙ bits_join t (k - t) o a b (mod-lt v (pow_pos t))
    ∙ ap (λ (l : List ℕ). bits_from t o a ++ l) (sym (bits_above k t o b h))

-- the bits below `t` taken away, as a machine does it
pub taken_away : (v t : ℕ) → v < 2 ^ word_bits → v / 2 ^ t * 2 ^ t % 2 ^ word_bits ≡ v / 2 ^ t * 2 ^ t
taken_away v t h = mod-eq_of_lt (omega (arith, div-add-mod' v (2 ^ t)))

-- ---- a word whose lowest bits are 0

-- more bits, which are all 0, add none
bits_wide : (j k o v : ℕ) → v < 2 ^ j → j ≤ k → bits_from k o v ≡ bits_from j o v
bits_wide j k o v h l =
    let q : k ≡ j + (k - j) = omega arith in
    let z : v ≡ v + 2 ^ j * 0 = omega arith in
    ap (λ (n : ℕ). bits_from n o v) q
    ∙ ap (bits_from (j + (k - j)) o) z
    ∙ bits_join j (k - j) o v 0 h
    ∙ ap (λ (m : List ℕ). bits_from j o v ++ m) (bits_zero (k - j) (o + j))
    ∙ append-nil (bits_from j o v)

-- a word that has no one below `t` is a word from there on
bits_shifted : (o t v : ℕ) → t ≤ word_bits → v < 2 ^ word_bits → Rising (o + t) (bits_from word_bits o v)
    → bits_from word_bits (o + t) (v / 2 ^ t) ≡ bits_from word_bits o v
bits_shifted o t v h l r =
    let under : List ℕ = bits_from t o (v % 2 ^ t) in
    let above : List ℕ = bits_from word_bits o (v / 2 ^ t * 2 ^ t) in
    let two : bits_from word_bits o v ≡ under ++ above = bits_split word_bits t o v h in
    let q : word_bits ≡ word_bits - t + t = omega arith in
    let none : under ≡ [] =
    rising_none (o + t) under (Rising_front (o + t) under above (subst (Rising (o + t)) two r))
    (beyond_rest o (o + t) (o + t) [] under (omega arith) (beyond_bits t o (v % 2 ^ t)))
    in
    bits_wide (word_bits - t) word_bits (o + t) (v / 2 ^ t) (shr_lt (word_bits - t) t (subst (λ (n : ℕ). v < 2 ^ n) q l)) (omega arith)
    ∙ sym (bits_above word_bits t o (v / 2 ^ t) h)
    ∙ ap (λ (m : List ℕ). m ++ above) (sym none)
    ∙ sym two

-- and the place of the lowest one is within the word
pub lowest_shifted : (o s v : ℕ) → 0 < v → v < 2 ^ word_bits → s ≡ o + count_trailing_zeros word_bits v
    → (s - o < word_bits) × (bits_from word_bits s (v / 2 ^ (s - o)) ≡ bits_from word_bits o v)
lowest_shifted o s v g l e =
    let b = lowest_below word_bits o v (o + word_bits) g l (beyond_bits word_bits o v) in
    let q : o + (s - o) ≡ s = omega (arith, e) in
    let first = bits_lowest word_bits o v g l in
    let rest : List ℕ = bits_from word_bits o (bit_and v (v - 1)) in
    let u : Rising o ((o + count_trailing_zeros word_bits v) ∷ rest) = subst (Rising o) first (Rising_bits word_bits o v) in
    let r : Rising (o + (s - o)) (bits_from word_bits o v) = subst (Rising (o + (s - o))) (sym first) (omega (arith, e), u.1) in (
      omega (arith, e, b),
      ap (λ (n : ℕ). bits_from word_bits n (v / 2 ^ (s - o))) (sym q) ∙ bits_shifted o (s - o) v (omega (arith, e, b)) l r,
    )
