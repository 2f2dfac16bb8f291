-- Laws of laying bits into a window: what falls into a word, and what one store or two say of the steps.
-- Assumes nothing.
use mathlib.Core.Path.{◌≡◌, refl, sym, ap, ◌∙◌}
use mathlib.Core.Bool.{Bool, true, false}
use mathlib.Core.List.{List, [], ◌∷◌, ◌++◌}
use Prim.Native.Nat.{ℕ, zero, suc, ◌+◌, ◌-◌, ◌*◌, ◌/◌, ◌%◌, ◌^◌, ◌≤◌, ◌<◌}
use native.Mathlib.Omega.{arith}
use native.Mathlib.Decide.{ℕ_discrete}
use native.Mathlib.Nat.{pow-suc, pow-succ', div-div-eq-div-mul, mod-eq_of_lt}
use lib.Arith.{mod-mul}
use lib.Bits.{bit_or, or_zero_r, shifted_half, shifted_even}
use lib.Pow.{pow_pos, pow-lt, shr_le}
use lib.ListN.{length, get_or, set, length-set}
use lib.Seq.{get_or-set_same, get_or-set_other}
use Rattle.lists.specs.Choice.{pick}
use Rattle.lists.specs.Members.{has}
use Rattle.lists.proofs.Choice.{by_lt}
use Rattle.lists.proofs.Rising.{Rising_weaken}
use Rattle.lists.proofs.Members.{has_none, has_here, has-past, has_below, has-beyond}
use Rattle.row.specs.Row.{bits_from, bits_of}
use Rattle.row.specs.Words.{word_bits}
use Rattle.row.proofs.Bits.{bits_none, bits_odd, bits_even, by_bit, Rising_bits, beyond_bits}
use Rattle.row.proofs.Written.{bits_of_same, bits_of_none, bits_of-cons}
use Rattle.pair_window.specs.Window.{words_from}
use Rattle.pair_window.proofs.Words.{words_append}

-- ---- the bits of a number that fall into some places

mod_half : (k v : ℕ) → v % 2 ^ suc k ≡ v % 2 + 2 * (v / 2 % 2 ^ k)
mod_half k v = ap (λ (n : ℕ). v % n) (pow-suc 2 k) ∙ mod-mul v (pow_pos k) (omega arith) ∙ omega arith

bits_of_zero : (o : ℕ) (xs : List ℕ) → bits_of 0 o xs ≡ 0
unfolding bits_of
bits_of_zero o xs = refl

bits_of_first : (k o : ℕ) (xs : List ℕ) (b : Bool) → has o xs ≡ b → bits_of (suc k) o xs ≡ pick b 1 0 + 2 * bits_of k (suc o) xs
unfolding bits_of
bits_of_first k o xs b e = ap (λ (t : Bool). pick t 1 0 + 2 * bits_of k (suc o) xs) e

-- from the number's first place on
bits_here : (k m o v : ℕ) → v < 2 ^ m → bits_of k o (bits_from m o v) ≡ v % 2 ^ k
bits_here zero m o v h = bits_of_zero o (bits_from m o v) ∙ omega arith
bits_here (suc k) zero o v h =
    let z : 0 ≡ v = omega arith in
    ap (bits_of (suc k) o) (bits_none o v) ∙ bits_of_none (suc k) o [] tt ∙ sym (mod-eq_of_lt (pow_pos (suc k))) ∙ ap (λ (n : ℕ). n % 2 ^ suc k) z
bits_here (suc k) (suc m) o v h =
    let l : List ℕ = bits_from m (suc o) (v / 2) in
    let q : 2 ^ suc m ≡ 2 * 2 ^ m = pow-succ' 2 m in
    let ih : bits_of k (suc o) l ≡ v / 2 % 2 ^ k = bits_here k m (suc o) (v / 2) (omega arith) in
    by_bit v
    (λ e.
    let s : bits_of k (suc o) (o ∷ l) ≡ bits_of k (suc o) l = bits_of_same k (suc o) (o ∷ l) l (λ z g n. has-past z o l (λ r. omega arith)) in
    ap (bits_of (suc k) o) (bits_odd m o v e) ∙ bits_of_first k o (o ∷ l) true (has_here o o l refl) ∙ omega (arith, mod_half k v))
    (λ e.
    ap (bits_of (suc k) o) (bits_even m o v e)
    ∙ bits_of_first k o l false (has_below o (suc o) l (Rising_bits m (suc o) (v / 2)) (omega arith))
    ∙ omega (arith, mod_half k v))

-- from places before it on
bits_up : (s k m o v : ℕ) → v < 2 ^ m → bits_of k o (bits_from m (o + s) v) ≡ v * 2 ^ s % 2 ^ k
bits_up zero k m o v h =
    let q : o + 0 ≡ o = omega arith in
    let r : v ≡ v * 2 ^ 0 = omega arith in
    ap (λ (p : ℕ). bits_of k o (bits_from m p v)) q ∙ bits_here k m o v h ∙ ap (λ (n : ℕ). n % 2 ^ k) r
bits_up (suc s) zero m o v h = bits_of_zero o (bits_from m (o + suc s) v) ∙ omega arith
bits_up (suc s) (suc k) m o v h =
    let l : List ℕ = bits_from m (o + suc s) v in
    let q : suc o + s ≡ o + suc s = omega arith in
    let ih : bits_of k (suc o) l ≡ v * 2 ^ s % 2 ^ k = ap (λ (p : ℕ). bits_of k (suc o) (bits_from m p v)) (sym q) ∙ bits_up s k m (suc o) v h in
    let w : v * 2 ^ suc s / 2 % 2 ^ k ≡ v * 2 ^ s % 2 ^ k = ap (λ (n : ℕ). n % 2 ^ k) (shifted_half v s) in
    bits_of_first k o l false (has_below o (o + suc s) l (Rising_bits m (o + suc s) v) (omega arith))
    ∙ omega (arith, mod_half k (v * 2 ^ suc s), shifted_even v s)

-- from a later place on
bits_down : (t k m o v : ℕ) → v < 2 ^ m → bits_of k (o + t) (bits_from m o v) ≡ v / 2 ^ t % 2 ^ k
bits_down zero k m o v h =
    let q : o + 0 ≡ o = omega arith in
    let r : v ≡ v / 2 ^ 0 = omega arith in
    ap (λ (p : ℕ). bits_of k p (bits_from m o v)) q ∙ bits_here k m o v h ∙ ap (λ (n : ℕ). n % 2 ^ k) r
bits_down (suc t) k zero o v h =
    let z : 0 ≡ v / 2 ^ suc t = omega (arith, shr_le v (suc t)) in
    ap (bits_of k (o + suc t)) (bits_none o v)
    ∙ bits_of_none k (o + suc t) [] tt
    ∙ sym (mod-eq_of_lt (pow_pos k))
    ∙ ap (λ (n : ℕ). n % 2 ^ k) z
bits_down (suc t) k (suc m) o v h =
    let l : List ℕ = bits_from m (suc o) (v / 2) in
    let p : 2 ^ suc m ≡ 2 * 2 ^ m = pow-succ' 2 m in
    let q : o + suc t ≡ suc o + t = omega arith in
    let d : v / 2 / 2 ^ t ≡ v / 2 ^ suc t = div-div-eq-div-mul v 2 (2 ^ t) ∙ ap (λ (n : ℕ). v / n) (sym (pow-succ' 2 t)) in
    by_bit v
    (λ e.
    ap (bits_of k (o + suc t)) (bits_odd m o v e) ∙ bits_of_same k (o + suc t) (o ∷ l) l (λ z g n. has-past z o l (λ r. omega arith)))
    (λ e. ap (bits_of k (o + suc t)) (bits_even m o v e))
    ∙ ap (λ (x : ℕ). bits_of k x l) q
    ∙ bits_down t k m (suc o) (v / 2) (omega arith)
    ∙ ap (λ (n : ℕ). n % 2 ^ k) d

-- ---- one word of the window, or two, with more bits

-- the words with those of `v` over word `i`
abbrev pub over : List ℕ → ℕ → ℕ → List ℕ
over words i v = set words i (bit_or (get_or words i 0) v)

-- the bits that steps have in word `j` of the window from `o` on
abbrev pub in_word : ℕ → ℕ → List ℕ → ℕ
in_word o j ys = bits_of word_bits (o + word_bits * j) ys

over_other : (words : List ℕ) (i v j w : ℕ) → (j ≡ i → ⊥) → w ≡ 0 → get_or (over words i v) j 0 ≡ bit_or (get_or words j 0) w
over_other words i v j w n e =
    get_or-set_other words i j (bit_or (get_or words i 0) v) 0 n
    ∙ sym (or_zero_r (get_or words j 0))
    ∙ ap (bit_or (get_or words j 0)) (sym e)

over_same : (words : List ℕ) (i v j : ℕ) → i < length words → j ≡ i → get_or (over words i v) j 0 ≡ bit_or (get_or words j 0) v
over_same words i v j h e =
    ap (λ (n : ℕ). get_or (over words i v) n 0) e
    ∙ get_or-set_same words i (bit_or (get_or words i 0) v) 0 h
    ∙ ap (λ (n : ℕ). bit_or (get_or words n 0) v) (sym e)

module _ (words : List ℕ) (o : ℕ) (xs ys : List ℕ) (e : words ≡ words_from (length words) o xs) (i v : ℕ) (ev : v ≡ in_word o i ys) where
  pub words_one : i < length words → ((j : ℕ) → j < length words → (j ≡ i → ⊥) → in_word o j ys ≡ 0)
      → over words i v ≡ words_from (length words) o (xs ++ ys)
  words_one h f = words_append (length words) o xs ys words (over words i v) e (length-set words i (bit_or (get_or words i 0) v)) (λ j l. by j l (ℕ_discrete j i))
    where
      by : (j : ℕ) → j < length words → Dec (j ≡ i) → get_or (over words i v) j 0 ≡ bit_or (get_or words j 0) (in_word o j ys)
      by j l (yes q) = over_same words i v j h q ∙ ap (bit_or (get_or words j 0)) (ev ∙ ap (λ (n : ℕ). in_word o n ys) (sym q))
      by j l (no q) = over_other words i v j (in_word o j ys) q (f j l q)

  pub words_two : (u : ℕ) → i + 1 < length words → u ≡ in_word o (i + 1) ys
      → ((j : ℕ) → (j ≡ i → ⊥) → (j ≡ i + 1 → ⊥) → in_word o j ys ≡ 0) → over (over words i v) (i + 1) u ≡ words_from (length words) o (xs ++ ys)
  words_two u h eu f = words_append (length words) o xs ys words two e (length-set one (i + 1) _ ∙ same) (λ j l. by j (ℕ_discrete j i) (ℕ_discrete j (i + 1)))
    where
      one : List ℕ
      one = over words i v

      two : List ℕ
      two = over one (i + 1) u

      same : length one ≡ length words
      same = length-set words i (bit_or (get_or words i 0) v)

      by : (j : ℕ) → Dec (j ≡ i) → Dec (j ≡ i + 1) → get_or two j 0 ≡ bit_or (get_or words j 0) (in_word o j ys)
      by j (yes q) d =
          get_or-set_other one (i + 1) j _ 0 (λ r. omega arith)
          ∙ over_same words i v j (omega arith) q
          ∙ ap (bit_or (get_or words j 0)) (ev ∙ ap (λ (n : ℕ). in_word o n ys) (sym q))
      by j (no q) (yes r) =
          over_same one (i + 1) u j (omega (arith, same)) r
          ∙ ap (λ (n : ℕ). bit_or n u) (get_or-set_other words i j _ 0 q)
          ∙ ap (bit_or (get_or words j 0)) (eu ∙ ap (λ (n : ℕ). in_word o n ys) (sym r))
      by j (no q) (no r) = get_or-set_other one (i + 1) j _ 0 r ∙ over_other words i v j (in_word o j ys) q (f j q r)

-- ---- 64 bits, and one step, at a place of the window

module _ (o place : ℕ) where
  pub mark_here : in_word o (place / word_bits) ((o + place) ∷ []) ≡ 1 * 2 ^ (place % word_bits) % 2 ^ word_bits
  mark_here =
      let w : ℕ = o + word_bits * (place / word_bits) in
      let s : ℕ = place % word_bits in
      let q : o + place - w ≡ s = omega arith in
      let e : in_word o (place / word_bits) ((o + place) ∷ []) ≡ 2 ^ s =
      bits_of-cons word_bits w (o + place) [] (has_none (o + place)) (omega arith) (omega arith)
      ∙ ap (λ (n : ℕ). 2 ^ (o + place - w) + n) (bits_of_none word_bits w [] tt)
      ∙ ap (λ (n : ℕ). 2 ^ n + 0) q
      ∙ omega arith
      in
      let l : 2 ^ s < 2 ^ word_bits = pow-lt {i = s} {j = word_bits} (omega arith) in
      let m : 2 ^ s % 2 ^ word_bits ≡ 2 ^ s = mod-eq_of_lt l in
      let one : 1 * 2 ^ s ≡ 2 ^ s = omega arith in
      e ∙ sym (ap (λ (n : ℕ). n % 2 ^ word_bits) one ∙ m)

  pub mark_other : (j : ℕ) → (j ≡ place / word_bits → ⊥) → in_word o j ((o + place) ∷ []) ≡ 0
  mark_other j n =
      bits_of_same word_bits (o + word_bits * j) ((o + place) ∷ []) [] (λ z h g. has-past z (o + place) [] (λ e. n (omega arith)))
      ∙ bits_of_none word_bits (o + word_bits * j) [] tt

  module _ (v : ℕ) (h : v < 2 ^ word_bits) where
    pub laid_here : in_word o (place / word_bits) (bits_from word_bits (o + place) v) ≡ v * 2 ^ (place % word_bits) % 2 ^ word_bits
    laid_here =
        let w : ℕ = o + word_bits * (place / word_bits) in
        let q : o + place ≡ w + place % word_bits = omega arith in
        ap (λ (p : ℕ). bits_of word_bits w (bits_from word_bits p v)) q ∙ bits_up (place % word_bits) word_bits word_bits w v h

    pub laid_next : in_word o (place / word_bits + 1) (bits_from word_bits (o + place) v) ≡ v / 2 / 2 ^ (63 - place % word_bits)
    laid_next =
        let t : ℕ = 63 - place % word_bits in
        let q : o + word_bits * (place / word_bits + 1) ≡ o + place + suc t = omega arith in
        let d : v / 2 ^ suc t ≡ v / 2 / 2 ^ t = ap (λ (n : ℕ). v / n) (pow-succ' 2 t) ∙ sym (div-div-eq-div-mul v 2 (2 ^ t)) in
        let l : v / 2 ^ suc t < 2 ^ word_bits = omega (arith, shr_le v (suc t)) in
        ap (λ (p : ℕ). bits_of word_bits p (bits_from word_bits (o + place) v)) q
        ∙ bits_down (suc t) word_bits word_bits (o + place) v h
        ∙ mod-eq_of_lt l
        ∙ d

  pub laid_before : (v j : ℕ) → j < place / word_bits → in_word o j (bits_from word_bits (o + place) v) ≡ 0
  laid_before v j l =
      bits_of_none word_bits (o + word_bits * j) (bits_from word_bits (o + place) v)
      (Rising_weaken (bits_from word_bits (o + place) v) (omega arith) (Rising_bits word_bits (o + place) v))

  pub laid_other : (v j : ℕ) → (j ≡ place / word_bits → ⊥) → (j ≡ place / word_bits + 1 → ⊥) → in_word o j (bits_from word_bits (o + place) v) ≡ 0
  laid_other v j n m =
      by_lt j (place / word_bits) (laid_before v j)
      (λ l.
      let ys : List ℕ = bits_from word_bits (o + place) v in
      let g : place / word_bits + 2 ≤ j = omega arith in
      bits_of_same word_bits (o + word_bits * j) ys []
      (λ z a b. has-beyond z (o + place) ys (Rising_bits word_bits (o + place) v) (omega (arith, beyond_bits word_bits (o + place) v)) ∙ sym (has_none z))
      ∙ bits_of_none word_bits (o + word_bits * j) [] tt)
