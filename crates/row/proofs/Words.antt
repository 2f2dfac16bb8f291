-- Laws of words: the bytes of a row are the bits of one number, and a loop goes by eight of them, and what is left, at a time.
-- Assumes nothing.
use mathlib.Core.Path.{◌≡◌, refl, sym, ap, ◌∙◌, subst}
use mathlib.Core.List.{List, [], ◌∷◌, ◌++◌, append-nil, append_assoc}
use Prim.Native.Nat.{ℕ, zero, suc, ◌+◌, ◌*◌, ◌/◌, ◌^◌, ◌≤◌, ◌<◌}
use native.Mathlib.Omega.{arith}
use native.Mathlib.Nat.{pow-le-pow_right}
use lib.ListN.{length, get_or, take, drop, length-take, length-drop, length-append, take-append-drop, drop_of_length-le}
use lib.Seq.{drop-drop, drop_at}
use Rattle.std.specs.List.{push}
use Rattle.std.specs.Int.{from_le_bytes}
use Rattle.std.specs.Simd.{first_chunks}
use mir.Syntax.{w64}
use Rattle.lists.specs.Bytes.{Bytes, byte_values}
use Rattle.lists.proofs.Choice.{by_lt}
use Rattle.lists.proofs.Bytes.{bytes_take, bytes_drop}
use Rattle.rules.specs.Numbers.{little}
use Rattle.rules.proofs.Numbers.{little-lt}
use Rattle.row.specs.Row.{byte_bits, bits_from, row_steps}
use Rattle.row.specs.Words.{word_bytes, word_bits}
use Rattle.row.proofs.Bits.{bits_zero, bits_join, length_bits_moved}
use Rattle.row.proofs.Row.{row_left, row_start, row_none, row_cons, row_append}

-- THE STEPS OF BYTES ARE THOSE OF THE NUMBER THAT THEY STAND FOR
pub row_little : (k o : ℕ) (bs : List ℕ) → Bytes bs → length bs ≤ k → row_steps o bs ≡ bits_from (byte_bits * k) o (little bs)
unfolding little
row_little k o [] w h = row_none o ∙ sym (bits_zero (byte_bits * k) o)
row_little zero o (b ∷ bs) w h = absurd (omega arith)
row_little (suc k) o (b ∷ bs) w h =
    let q : byte_bits + byte_bits * k ≡ byte_bits * suc k = omega arith in
    row_cons o b bs
    ∙ ap (λ (l : List ℕ). bits_from byte_bits o b ++ l) (row_little k (o + byte_bits) bs (λ i. w (suc i)) (omega arith))
    ∙ sym (bits_join byte_bits (byte_bits * k) o b (little bs) (w 0))
    ∙ ap (λ (n : ℕ). bits_from n o (little (b ∷ bs))) q

-- the library's number of eight bytes
pub little_eight : (s : List ℕ) → length s ≡ word_bytes → from_le_bytes w64 s ≡ little s
unfolding little
little_eight (a ∷ b ∷ c ∷ d ∷ e ∷ f ∷ g ∷ h ∷ []) l = omega arith
little_eight [] l = absurd (omega arith)
little_eight (a ∷ []) l = absurd (omega arith)
little_eight (a ∷ b ∷ []) l = absurd (omega arith)
little_eight (a ∷ b ∷ c ∷ []) l = absurd (omega arith)
little_eight (a ∷ b ∷ c ∷ d ∷ []) l = absurd (omega arith)
little_eight (a ∷ b ∷ c ∷ d ∷ e ∷ []) l = absurd (omega arith)
little_eight (a ∷ b ∷ c ∷ d ∷ e ∷ f ∷ []) l = absurd (omega arith)
little_eight (a ∷ b ∷ c ∷ d ∷ e ∷ f ∷ g ∷ []) l = absurd (omega arith)
little_eight (a ∷ b ∷ c ∷ d ∷ e ∷ f ∷ g ∷ h ∷ i ∷ r) l = absurd (omega arith)

-- ---- a word whose bytes are read from the last one on

-- the bytes `rest` of s are left, and the word is the number of the others
pub record Back (s rest : List ℕ) (word : ℕ) : Type 0 where
  pub done : List ℕ
  pub parts : s ≡ rest ++ done
  pub is : word ≡ little done

pub Back_start : (s rest : List ℕ) → rest ≡ s → Back s rest 0
unfolding little
Back_start s rest e = record { done = []; parts = sym e ∙ sym (append-nil rest); is = refl }

module _ {s rest : List ℕ} {word : ℕ} (b : Back s rest word) where
  module _ (left : List ℕ) (x : ℕ) (e : rest ≡ push left x) where
    pub Back_turn : (y : ℕ) → y ≡ x → Back s left (y + byte_values * word)
    unfolding little
    Back_turn y f = record {
      done = x ∷ b.done;
      parts = b.parts ∙ ap (λ (l : List ℕ). l ++ b.done) e ∙ append_assoc left (x ∷ []) b.done;
      is = omega (arith, b.is);
    }

    -- it has six bytes at the most
    pub back_small : Bytes s → length s < word_bytes → word < byte_values ^ 6
    back_small w h =
        let n : length b.done ≤ 6 = omega (arith, ap length b.parts, length-append rest b.done, ap length e, length-append left (x ∷ [])) in
        let d : b.done ≡ drop (length rest) s = sym (ap (drop (length rest)) b.parts ∙ drop_at rest b.done (length rest) refl) in
        let m : byte_values ^ length b.done ≤ byte_values ^ 6 = pow-le-pow_right (omega arith) n in
        omega (arith, b.is, little-lt b.done (subst Bytes (sym d) (bytes_drop s (length rest) w)))

  pub back_end : length rest ≡ 0 → word ≡ little s
  back_end e = b.is ∙ ap little (sym (b.parts ∙ none rest e))
    where
      none : (l : List ℕ) → length l ≡ 0 → l ++ b.done ≡ b.done
      none [] h = refl
      none (x ∷ l) h = absurd (omega arith)

-- ---- the first word, and what follows it

module _ (o : ℕ) (s : List ℕ) (w : Bytes s) where
  pub row_words : row_steps o s ≡ bits_from word_bits o (little (take word_bytes s)) ++ row_steps (o + word_bits) (drop word_bytes s)
  row_words = by_lt (length s) word_bytes short long
    where
      front : row_steps o s ≡ bits_from word_bits o (little (take word_bytes s)) ++ row_steps (o + byte_bits * length (take word_bytes s)) (drop word_bytes s)
      front =
          ap (row_steps o) (sym (take-append-drop word_bytes s))
          ∙ row_append o (take word_bytes s) (drop word_bytes s)
          ∙ ap (λ (l : List ℕ). l ++ row_steps (o + byte_bits * length (take word_bytes s)) (drop word_bytes s))
          (row_little word_bytes o (take word_bytes s) (bytes_take s word_bytes w) (omega (arith, length-take word_bytes s)))

      long : word_bytes ≤ length s → row_steps o s ≡ bits_from word_bits o (little (take word_bytes s)) ++ row_steps (o + word_bits) (drop word_bytes s)
      long h =
          let n : length (take word_bytes s) ≡ word_bytes = omega (arith, length-take word_bytes s) in
          front ∙ ap (λ (k : ℕ). bits_from word_bits o (little (take word_bytes s)) ++ row_steps (o + byte_bits * k) (drop word_bytes s)) n

      short : length s < word_bytes → row_steps o s ≡ bits_from word_bits o (little (take word_bytes s)) ++ row_steps (o + word_bits) (drop word_bytes s)
      short h =
          let d : drop word_bytes s ≡ [] = drop_of_length-le s {i = word_bytes} (omega arith) in
          let p : ℕ = o + byte_bits * length (take word_bytes s) in
          let none : row_steps p (drop word_bytes s) ≡ row_steps (o + word_bits) (drop word_bytes s) =
          ap (row_steps p) d ∙ row_none p ∙ sym (row_none (o + word_bits)) ∙ ap (row_steps (o + word_bits)) (sym d)
          in
          front ∙ ap (λ (l : List ℕ). bits_from word_bits o (little (take word_bytes s)) ++ l) none

-- ---- a loop over words, and the bytes that are left

-- the steps of a row from its word `i` on
abbrev pub words_left : ℕ → List ℕ → ℕ → List ℕ
words_left o s i = row_left o s (word_bytes * i)

pub words_start : (o : ℕ) (s : List ℕ) → words_left o s 0 ≡ row_steps o s
words_start o s = row_start o s

-- the words that a slice is cut into
chunk_at : (s : List ℕ) (k i : ℕ) → i < k → get_or (first_chunks word_bytes k s) i [] ≡ take word_bytes (drop (word_bytes * i) s)
chunk_at s zero i h = absurd (omega arith)
chunk_at s (suc k) zero h = refl
chunk_at s (suc k) (suc i) h =
    let q : word_bytes + word_bytes * i ≡ word_bytes * suc i = omega arith in
    chunk_at (drop word_bytes s) k i (omega arith)
    ∙ ap (take word_bytes) (drop-drop (word_bytes * i) word_bytes s)
    ∙ ap (λ (n : ℕ). take word_bytes (drop n s)) q

module _ (o : ℕ) (s : List ℕ) (w : Bytes s) where
  -- the word of index `i`, and its number v
  module _ (ws : List (List ℕ)) (e : ws ≡ first_chunks word_bytes (length s / word_bytes) s) (i : ℕ) (h : i < length s / word_bytes) where
    here : get_or ws i [] ≡ take word_bytes (drop (word_bytes * i) s)
    here = ap (λ (l : List (List ℕ)). get_or l i []) e ∙ chunk_at s (length s / word_bytes) i h

    length_here : length (get_or ws i []) ≡ word_bytes
    length_here = omega (arith, ap length here, length-take word_bytes (drop (word_bytes * i) s), length-drop (word_bytes * i) s)

    pub words_turn : words_left o s i ≡ row_steps (o + word_bits * i) (get_or ws i []) ++ words_left o s (i + 1)
    words_turn =
        let p : ℕ = o + byte_bits * (word_bytes * i) in
        let q : p ≡ o + word_bits * i = omega arith in
        let r : p + byte_bits * length (get_or ws i []) ≡ o + byte_bits * (word_bytes * (i + 1)) = omega (arith, length_here) in
        let t : word_bytes * i + word_bytes ≡ word_bytes * (i + 1) = omega arith in
        ap (row_steps p) (sym (take-append-drop word_bytes (drop (word_bytes * i) s)))
        ∙ ap (λ (l : List ℕ). row_steps p (l ++ drop word_bytes (drop (word_bytes * i) s))) (sym here)
        ∙ row_append p (get_or ws i []) (drop word_bytes (drop (word_bytes * i) s))
        ∙ ap (λ (l : List ℕ). row_steps p (get_or ws i []) ++ row_steps (p + byte_bits * length (get_or ws i [])) l) (drop-drop word_bytes (word_bytes * i) s)
        ∙ ap (λ (n : ℕ). row_steps p (get_or ws i []) ++ row_steps n (drop (word_bytes * i + word_bytes) s)) r
        ∙ ap (λ (n : ℕ). row_steps p (get_or ws i []) ++ row_steps (o + byte_bits * (word_bytes * (i + 1))) (drop n s)) t
        ∙ ap (λ (n : ℕ). row_steps n (get_or ws i []) ++ words_left o s (i + 1)) q

    module _ (v : ℕ) (f : v ≡ little (get_or ws i [])) where
      pub word_here : row_steps (o + word_bits * i) (get_or ws i []) ≡ bits_from word_bits (o + word_bits * i) v
      word_here =
          let b : Bytes (get_or ws i []) = subst Bytes (sym here) (bytes_take (drop (word_bytes * i) s) word_bytes (bytes_drop s (word_bytes * i) w)) in
          row_little word_bytes (o + word_bits * i) (get_or ws i []) b (omega (arith, length_here)) ∙ ap (bits_from word_bits (o + word_bits * i)) (sym f)

      pub row_word : words_left o s i ≡ bits_from word_bits (o + word_bits * i) v ++ words_left o s (i + 1)
      row_word = words_turn ∙ ap (λ (l : List ℕ). l ++ words_left o s (i + 1)) word_here

      pub length_word : length (words_left o s i) ≡ length (bits_from word_bits 0 v) + length (words_left o s (i + 1))
      length_word =
          ap length row_word
          ∙ length-append (bits_from word_bits (o + word_bits * i) v) (words_left o s (i + 1))
          ∙ ap (λ (n : ℕ). n + length (words_left o s (i + 1))) (length_bits_moved word_bits (o + word_bits * i) v)

  -- the bytes that are left, and their number v
  module _ (r : List ℕ) (e : r ≡ drop (length s / word_bytes * word_bytes) s) (i : ℕ) (h : i ≡ length s / word_bytes) where
    pub words_rest : words_left o s i ≡ row_steps (o + word_bits * i) r
    words_rest =
        let p : o + byte_bits * (word_bytes * i) ≡ o + word_bits * i = omega arith in
        let q : word_bytes * i ≡ length s / word_bytes * word_bytes = omega arith in
        ap (λ (n : ℕ). row_steps n (drop (word_bytes * i) s)) p
        ∙ ap (λ (n : ℕ). row_steps (o + word_bits * i) (drop n s)) q
        ∙ ap (row_steps (o + word_bits * i)) (sym e)

    module _ (v : ℕ) (f : v ≡ little r) where
      pub row_rest : words_left o s i ≡ bits_from word_bits (o + word_bits * i) v
      row_rest =
          let b : Bytes r = subst Bytes (sym e) (bytes_drop s (length s / word_bytes * word_bytes) w) in
          let n : length r ≤ word_bytes = omega (arith, ap length e, length-drop (length s / word_bytes * word_bytes) s) in
          words_rest ∙ row_little word_bytes (o + word_bits * i) r b n ∙ ap (bits_from word_bits (o + word_bits * i)) (sym f)

      pub length_rest : length (words_left o s i) ≡ length (bits_from word_bits 0 v)
      length_rest = ap length row_rest ∙ length_bits_moved word_bits (o + word_bits * i) v
