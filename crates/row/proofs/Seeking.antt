-- Laws of looking for a step of a row by its index: past a byte, past a word, and in a byte.
-- Assumes nothing.
use mathlib.Core.Path.{◌≡◌, refl, sym, ap, ◌∙◌, subst}
use mathlib.Core.List.{List, [], ◌++◌}
use Prim.Native.Nat.{ℕ, ◌+◌, ◌-◌, ◌*◌, ◌/◌, ◌%◌, ◌≤◌, ◌<◌}
use native.Mathlib.Omega.{arith}
use lib.ListN.{length, get_or, take, drop, length-drop, length-append, get_or-append}
use lib.Seq.{take_all, get_or-append-add}
use Rattle.std.specs.Simd.{first_chunks}
use Rattle.lists.specs.Below.{below}
use Rattle.lists.specs.Bytes.{Bytes, byte_values}
use Rattle.rules.specs.Numbers.{little}
use Rattle.row.specs.Row.{byte_bits, bits_from, row_steps, kth_one}
use Rattle.row.specs.Words.{word_bytes, word_bits}
use Rattle.row.proofs.Bits.{length_bits_moved, length_bits_most, length_bits_wide}
use Rattle.row.proofs.Row.{row_left, row_start, row_split, row_turn, row_end, length_row_moved}
use Rattle.row.proofs.Words.{words_left, words_turn, word_here, words_rest}
use Rattle.row.proofs.Places.{get_or_bits, below_whole, bound_within}

-- what stands at index `k` of xs stands at index `j` of ys
pub record Seeking (xs : List ℕ) (k : ℕ) (ys : List ℕ) (j : ℕ) : Type 0 where
  pub is : get_or xs k 0 ≡ get_or ys j 0
  pub within : j < length ys

module _ {xs : List ℕ} {k : ℕ} {ys : List ℕ} {j : ℕ} (s : Seeking xs k ys j) where
  seeking_same : {zs : List ℕ} → ys ≡ zs → Seeking xs k zs j
  seeking_same e = subst (λ (l : List ℕ). Seeking xs k l j) e s

  seeking_none : ys ≡ [] → ⊥
  seeking_none e = omega (arith, s.within, ap length e)

  -- the first `n` elements of ys, and the others
  module _ (us vs : List ℕ) (n : ℕ) (e : ys ≡ us ++ vs) (c : n ≡ length us) where
    seeking_here : j < n → get_or xs k 0 ≡ get_or us j 0
    seeking_here h = s.is ∙ ap (λ (l : List ℕ). get_or l j 0) e ∙ get_or-append us vs 0 j (omega arith)

    seeking_past : n ≤ j → Seeking xs k vs (j - n)
    seeking_past h =
        let q : j ≡ length us + (j - n) = omega arith in
        record {
          is = s.is ∙ ap (λ (l : List ℕ). get_or l j 0) e ∙ ap (λ (m : ℕ). get_or (us ++ vs) m 0) q ∙ get_or-append-add us vs (j - n) 0;
          within = omega (arith, s.within, ap length e, length-append us vs);
        }

pub Seeking-start : (xs : List ℕ) (k : ℕ) → k < length xs → Seeking xs k xs k
Seeking-start xs k h = record { is = refl; within = h }

-- ---- in a row

-- the ones of a byte, counted as those of a word
length_byte : (o b n : ℕ) → b < byte_values → n ≡ length (bits_from word_bits 0 b) → n ≡ length (bits_from byte_bits o b)
length_byte o b n h e = e ∙ length_bits_wide word_bits byte_bits 0 b (omega arith) h ∙ sym (length_bits_moved byte_bits o b)

pub byte_most : (b n : ℕ) → b < byte_values → n ≡ length (bits_from word_bits 0 b) → n ≤ byte_bits
byte_most b n h e = omega (arith, length_byte 0 b n h e, length_bits_most byte_bits 0 b)

pub Seeking_row : (o : ℕ) (s : List ℕ) (k : ℕ) → k < length (row_steps o s) → Seeking (row_steps o s) k (row_left o s 0) k
Seeking_row o s k h = seeking_same (Seeking-start (row_steps o s) k h) (sym (row_start o s))

module _ {xs : List ℕ} {k : ℕ} (o : ℕ) (s : List ℕ) (i : ℕ) {j : ℕ} (g : Seeking xs k (row_left o s i) j) where
  pub seeking_end : length s ≤ i → ⊥
  seeking_end h = seeking_none g (row_end o s i h)

  -- the byte b at place `i` has `n` ones
  module _ (b n : ℕ) (h : i < length s) (e : b ≡ get_or s i 0) (l : b < byte_values) (c : n ≡ length (bits_from word_bits 0 b)) where
    pub seeking_byte_here : j < n → o + byte_bits * i + kth_one b j ≡ get_or xs k 0
    seeking_byte_here f =
        let p : ℕ = o + byte_bits * i in
        sym
        (seeking_here g (bits_from byte_bits p b) (row_left o s (i + 1)) n (row_turn o s i b h e) (length_byte p b n l c) f
        ∙ get_or_bits p b j (omega (arith, length_byte 0 b n l c)))

    pub Seeking_byte_past : n ≤ j → Seeking xs k (row_left o s (i + 1)) (j - n)
    Seeking_byte_past f =
        let p : ℕ = o + byte_bits * i in
        seeking_past g (bits_from byte_bits p b) (row_left o s (i + 1)) n (row_turn o s i b h e) (length_byte p b n l c) f

module _ {xs : List ℕ} {k : ℕ} (o : ℕ) (s : List ℕ) {i j : ℕ} (g : Seeking xs k (words_left o s i) j) where
  -- the word of index `i`, whose number v has `n` ones
  module _ (w : Bytes s) (ws : List (List ℕ)) (e : ws ≡ first_chunks word_bytes (length s / word_bytes) s) (h : i < length s / word_bytes)
      (v n : ℕ) (f : v ≡ little (get_or ws i [])) (c : n ≡ length (bits_from word_bits 0 v)) where
    count : n ≡ length (row_steps (o + word_bits * i) (get_or ws i []))
    count = c ∙ sym (ap length (word_here o s w ws e i h v f) ∙ length_bits_moved word_bits (o + word_bits * i) v)

    pub Seeking_word_here : j < n → Seeking xs k (row_steps (o + word_bits * i) (get_or ws i [])) j
    Seeking_word_here l = record {
      is = seeking_here g (row_steps (o + word_bits * i) (get_or ws i [])) (words_left o s (i + 1)) n (words_turn o s w ws e i h) count l;
      within = omega (arith, count);
    }

    pub Seeking_word_past : n ≤ j → Seeking xs k (words_left o s (i + 1)) (j - n)
    Seeking_word_past l = seeking_past g (row_steps (o + word_bits * i) (get_or ws i [])) (words_left o s (i + 1)) n (words_turn o s w ws e i h) count l

  -- the bytes that are left
  pub Seeking_rest : Bytes s → (r : List ℕ) → r ≡ drop (length s / word_bytes * word_bytes) s → (n : ℕ) → n ≡ length s / word_bytes → i ≡ n
      → Seeking xs k (row_steps (o + word_bits * n) r) j
  Seeking_rest w r e n h q = seeking_same g (ap (words_left o s) q ∙ words_rest o s w r e n h)

-- the bytes from a place on, as a row of its own
pub Seeking_part : {xs : List ℕ} {k : ℕ} (o : ℕ) (s : List ℕ) (i j : ℕ) → Seeking xs k (row_left o s i) j → i ≤ length s
    → Seeking xs k (row_steps (o + byte_bits * i) (take (length s - i) (drop i s))) j
Seeking_part o s i j g h =
    seeking_same g (ap (row_steps (o + byte_bits * i)) (sym (take_all (length s - i) (drop i s) (omega (arith, length-drop i s)))))

-- the first step at or after x, in the byte that x falls into, where `n` ones stand before it
pub Seeking_bound : (o : ℕ) (s : List ℕ) (x n : ℕ) → o ≤ x → below (row_steps o s) x < length (row_steps o s)
    → n ≡ length (bits_from ((x - o) % byte_bits) 0 (get_or s ((x - o) / byte_bits) 0))
    → Seeking (row_steps o s) (below (row_steps o s) x) (row_left o s ((x - o) / byte_bits)) n
Seeking_bound o s x n h l e =
    let i : ℕ = (x - o) / byte_bits in
    let k : ℕ = below (row_steps o s) x in
    let w = bound_within o s x h l in
    let m : length (row_steps o (take i s)) + n ≡ k = below_whole o s x h _ n w (length_row_moved o (take i s)) e in
    let q : k - length (row_steps o (take i s)) ≡ n = omega arith in
    subst (Seeking (row_steps o s) k (row_left o s i)) q
    (seeking_past (Seeking-start (row_steps o s) k l) (row_steps o (take i s)) (row_left o s i) (length (row_steps o (take i s)))
    (row_split o s i (omega arith)) refl (omega arith))
