-- Laws of places: where the k-th one of a byte and the last one of a row stand, as a loop looks for them, and what stands below a bound.
-- Assumes nothing.
use mathlib.Core.Path.{◌≡◌, refl, sym, ap, ◌∙◌, subst}
use mathlib.Core.List.{List, [], ◌∷◌, ◌++◌, append-nil}
use Prim.Native.Nat.{ℕ, zero, suc, ◌+◌, ◌-◌, ◌*◌, ◌/◌, ◌%◌, ◌^◌, ◌≤◌, ◌<◌}
use native.Mathlib.Omega.{arith}
use native.Mathlib.Decide.{ℕ_discrete}
use lib.Bits.{bit_and, and_mask}
use lib.Count.{count_leading_zeros, leading_top}
use lib.ListN.{length, get_or, take, drop, length-drop, get_or-map, get_or-eq_default}
use lib.Seq.{length-take-le, get_or-drop}
use Rattle.lists.specs.Rising.{Rising, beyond}
use Rattle.lists.specs.Below.{below}
use Rattle.lists.specs.Bytes.{byte_values}
use Rattle.lists.proofs.Choice.{by_lt}
use Rattle.lists.proofs.Parts.{get_or_within}
use Rattle.lists.proofs.Rising.{Rising-get_or_below, beyond-append}
use Rattle.lists.proofs.Below.{below-append, below_reach}
use Rattle.row.specs.Row.{byte_bits, bits_from, row_steps, kth_one}
use Rattle.row.specs.Words.{word_bits}
use Rattle.row.proofs.Bits.{bits_none, bits_odd, bits_even, bits_zero, by_bit, bits_moved, Rising_bits, beyond_bits, length_bits_moved, length_bits_low, below_bits, beyond_highest}
use Rattle.row.proofs.Row.{row_none, row_cons, row_left, row_split, row_turn, length_row_moved, Rising_row, beyond_row_most}

-- ---- one bit after the other

-- the next bit is the one looked for
get_or_here : (k o v j d : ℕ) → j < v % 2 → get_or (bits_from (suc k) o v) j d ≡ o
get_or_here k o v zero d h = ap (λ (l : List ℕ). get_or l 0 d) (bits_odd k o v (omega arith))
get_or_here k o v (suc j) d h = absurd (omega arith)

-- the next bit is passed
get_or_past : (k o v j d : ℕ) → v % 2 ≤ j → get_or (bits_from (suc k) o v) j d ≡ get_or (bits_from k (suc o) (v / 2)) (j - v % 2) d
get_or_past k o v j d h = by_bit v (odd j h) even
  where
    even : (v % 2 ≡ 1 → ⊥) → get_or (bits_from (suc k) o v) j d ≡ get_or (bits_from k (suc o) (v / 2)) (j - v % 2) d
    even e =
        let z : j - v % 2 ≡ j = omega arith in
        rw z (ap (λ (l : List ℕ). get_or l j d) (bits_even k o v e))

    odd : (i : ℕ) → v % 2 ≤ i → v % 2 ≡ 1 → get_or (bits_from (suc k) o v) i d ≡ get_or (bits_from k (suc o) (v / 2)) (i - v % 2) d
    odd zero g e = absurd (omega arith)
    odd (suc i) g e =
        let z : suc i - v % 2 ≡ i = omega arith in
        rw z (ap (λ (l : List ℕ). get_or l (suc i) d) (bits_odd k o v e))

-- the one at index `j` of the bits `v` that stand from place `i` on
abbrev pub kth_left : ℕ → ℕ → ℕ → ℕ
kth_left i v j = get_or (bits_from (byte_bits - i) i v) j byte_bits

pub kth_start : (v j : ℕ) → kth_one v j ≡ kth_left 0 v j
unfolding kth_one
kth_start v j = refl

module _ (i v j : ℕ) where
  pub kth_here : i < byte_bits → j < v % 2 → kth_left i v j ≡ i
  kth_here h g = let q : byte_bits - i ≡ suc (byte_bits - (i + 1)) = omega arith in rw q (get_or_here (byte_bits - (i + 1)) i v j byte_bits g)

  pub kth_past : i < byte_bits → v % 2 ≤ j → kth_left i v j ≡ kth_left (i + 1) (v / 2) (j - v % 2)
  kth_past h g =
      let q : byte_bits - i ≡ suc (byte_bits - (i + 1)) = omega arith in
      let r : i + 1 ≡ suc i = omega arith in
      rw (q, r) (get_or_past (byte_bits - suc i) i v j byte_bits g)

  pub kth_end : byte_bits ≤ i → kth_left i v j ≡ byte_bits
  kth_end h = let q : byte_bits - i ≡ 0 = omega arith in rw q (ap (λ (l : List ℕ). get_or l j byte_bits) (bits_none i v))

-- ---- where it stands

pub kth_most : (v j : ℕ) → kth_one v j ≤ byte_bits
kth_most v j =
    let bits : List ℕ = bits_from byte_bits 0 v in
    by_lt j (length bits)
    (λ h.
    omega (
      arith,
      kth_start v j,
      get_or_within bits j byte_bits 0 h,
      Rising-get_or_below 0 bits j (Rising_bits byte_bits 0 v) h,
      beyond_bits byte_bits 0 v,
    ))
    (λ h. omega (arith, kth_start v j, get_or-eq_default bits byte_bits {n = j} h))

pub get_or_bits : (o v j : ℕ) → j < length (bits_from byte_bits 0 v) → get_or (bits_from byte_bits o v) j 0 ≡ o + kth_one v j
get_or_bits o v j h =
    let z : o ≡ o + 0 = omega arith in
    let bits : List ℕ = bits_from byte_bits 0 v in
    get_or_within (bits_from byte_bits o v) j 0 (o + byte_bits) (omega (arith, length_bits_moved byte_bits o v))
    ∙ ap (λ (p : ℕ). get_or (bits_from byte_bits p v) j (o + byte_bits)) z
    ∙ ap (λ (l : List ℕ). get_or l j (o + byte_bits)) (bits_moved byte_bits o 0 v)
    ∙ get_or-map (λ (x : ℕ). o + x) bits j byte_bits
    ∙ ap (λ (n : ℕ). o + n) (sym (kth_start v j))

-- ---- the last one of a row

-- bytes that are 0 have none
pub row_zeros : (o : ℕ) (s : List ℕ) → ((k : ℕ) → k < length s → get_or s k 0 ≡ 0) → row_steps o s ≡ []
row_zeros o [] z = row_none o
row_zeros o (b ∷ bs) z =
    row_cons o b bs
    ∙ ap (λ (v : ℕ). bits_from byte_bits o v ++ row_steps (o + byte_bits) bs) (z 0 (omega arith))
    ∙ ap (λ (l : List ℕ). l ++ row_steps (o + byte_bits) bs) (bits_zero byte_bits o)
    ∙ row_zeros (o + byte_bits) bs (λ k h. z (suc k) (omega arith))

-- it is in the last byte that is not 0, at place `i`
module _ (s : List ℕ) (i : ℕ) (h : i < length s) (z : (k : ℕ) → i < k → k < length s → get_or s k 0 ≡ 0) where
  row_last : row_steps 0 s ≡ row_steps 0 (take i s) ++ bits_from byte_bits (byte_bits * i) (get_or s i 0)
  row_last =
      let q : 0 + byte_bits * i ≡ byte_bits * i = omega arith in
      let none : row_left 0 s (i + 1) ≡ [] =
      row_zeros (0 + byte_bits * (i + 1)) (drop (i + 1) s)
      (λ k l. get_or-drop (i + 1) s k 0 ∙ z (i + 1 + k) (omega arith) (omega (arith, length-drop (i + 1) s)))
      in
      row_split 0 s i (omega arith)
      ∙ ap (λ (l : List ℕ). row_steps 0 (take i s) ++ l)
      (row_turn 0 s i (get_or s i 0) h refl
      ∙ ap (λ (l : List ℕ). bits_from byte_bits (0 + byte_bits * i) (get_or s i 0) ++ l) none
      ∙ append-nil (bits_from byte_bits (0 + byte_bits * i) (get_or s i 0)))
      ∙ ap (λ (o : ℕ). row_steps 0 (take i s) ++ bits_from byte_bits o (get_or s i 0)) q

  pub last_here : (get_or s i 0 ≡ 0 → ⊥) → get_or s i 0 < byte_values
      → byte_bits * (i + 1) - count_leading_zeros byte_bits (get_or s i 0) ≡ beyond 0 (row_steps 0 s)
  last_here f l =
      let p : 0 < get_or s i 0 = elim (ℕ_discrete (get_or s i 0) 0) [ yes e ↦ absurd (f e) | no e ↦ omega arith ] in
      let t = leading_top byte_bits (get_or s i 0) p (omega arith) in
      let j : ℕ = t.0 in
      let m : j < byte_bits = omega (arith, t.1) in
      let r : beyond 0 (row_steps 0 s) ≡ byte_bits * i + suc j =
      ap (beyond 0) row_last
      ∙ beyond-append 0 (row_steps 0 (take i s)) (bits_from byte_bits (byte_bits * i) (get_or s i 0))
      ∙ beyond_highest byte_bits (byte_bits * i) (beyond 0 (row_steps 0 (take i s))) j (get_or s i 0) m t.2 t.3
      in
      omega (arith, t.1)

-- ---- a bound within a row

-- it falls into the byte b at place `i`, at its bit `t`
below_row : (o : ℕ) (s : List ℕ) (i t b x : ℕ) → i < length s → t ≤ byte_bits → b ≡ get_or s i 0 → x ≡ o + byte_bits * i + t
    → below (row_steps o s) x ≡ length (row_steps 0 (take i s)) + length (bits_from t 0 b)
below_row o s i t b x h l e q =
    let us : List ℕ = row_steps o (take i s) in
    let p : ℕ = o + byte_bits * i in
    let r : p + byte_bits ≡ o + byte_bits * (i + 1) = omega arith in
    let u : beyond o us ≤ x = omega (arith, beyond_row_most o (take i s), length-take-le i s (omega arith)) in
    let v : Rising (p + byte_bits) (row_left o s (i + 1)) = subst (λ (n : ℕ). Rising n (row_left o s (i + 1))) (sym r) (Rising_row (o + byte_bits * (i + 1)) (drop (i + 1) s)) in
    let front : below (row_steps o s) x ≡ length us + below (row_left o s i) x =
    ap (λ (m : List ℕ). below m x) (row_split o s i (omega arith)) ∙ below-append o us (row_left o s i) x (Rising_row o (take i s)) u
    in
    let here : below (row_left o s i) x ≡ length (bits_from t p b) =
    ap (below (row_left o s i)) q
    ∙ ap (λ (m : List ℕ). below m (p + t)) (row_turn o s i b h e)
    ∙ below_bits byte_bits t p b (row_left o s (i + 1)) l v
    in
    omega (arith, length_row_moved o (take i s), length_bits_moved t p b)

-- the lowest bits of its byte: a one at its bit, less 1, keeps these
pub ones_masked : (b t p n : ℕ) → t ≤ byte_bits → p ≡ 2 ^ t → n ≡ length (bits_from word_bits 0 (bit_and b (p - 1))) → n ≡ length (bits_from t 0 b)
ones_masked b t p n h ep en =
    let mask : bit_and b (p - 1) ≡ b % 2 ^ t = ap (λ (q : ℕ). bit_and b (q - 1)) ep ∙ and_mask b t in
    en ∙ ap (λ (v : ℕ). length (bits_from word_bits 0 v)) mask ∙ sym (length_bits_low t word_bits 0 b (omega arith))

module _ (o : ℕ) (s : List ℕ) (x : ℕ) (h : o ≤ x) where
  -- the whole bytes before it, and the lowest bits of its own
  pub below_whole : (m n : ℕ) → x < o + byte_bits * length s → m ≡ length (row_steps 0 (take ((x - o) / byte_bits) s))
      → n ≡ length (bits_from ((x - o) % byte_bits) 0 (get_or s ((x - o) / byte_bits) 0))
      → m + n ≡ below (row_steps o s) x
  below_whole m n l em en =
      omega (
        arith,
        below_row o s ((x - o) / byte_bits) ((x - o) % byte_bits) (get_or s ((x - o) / byte_bits) 0) x (omega arith) (omega arith) refl (omega arith),
      )

  -- a bound that some step reaches
  pub bound_within : below (row_steps o s) x < length (row_steps o s) → x < o + byte_bits * length s
  bound_within l =
      omega (
        arith,
        below_reach (row_steps o s) x l,
        Rising-get_or_below o (row_steps o s) (below (row_steps o s) x) (Rising_row o s) l,
        beyond_row_most o s,
      )
