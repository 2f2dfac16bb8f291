-- Laws of the joined words of two windows: their steps are those that the operation keeps of the steps in the windows; and word by word.
-- Assumes nothing.
use mathlib.Core.Path.{◌≡◌, refl, sym, ap, ap₂, ◌∙◌}
use mathlib.Core.Bool.{Bool, true, false}
use mathlib.Core.List.{List, [], ◌∷◌, ◌++◌}
use Prim.Native.Nat.{ℕ, zero, suc, ◌+◌, ◌*◌, ◌/◌, ◌≤◌, ◌<◌}
use native.Mathlib.Omega.{arith}
use lib.Bits.{and_le_l}
use lib.ListN.{length, get_or, drop, length-append, drop_of_length-le}
use Rattle.lists.specs.Choice.{pick}
use Rattle.lists.specs.Members.{has}
use Rattle.lists.proofs.Parts.{drop_one}
use Rattle.row.specs.Row.{bits_from, bits_of}
use Rattle.row.specs.Words.{word_bits}
use Rattle.row.proofs.Bits.{bits_none, bits_odd, bits_even, length_bits_moved}
use Rattle.pair_window.specs.Window.{words_from}
use Rattle.pair_window.proofs.Digits.{or_digits, and_digits}
use Rattle.pair_operation.specs.declared.Operation.{Operation}
use Rattle.pair_operation.specs.declared.Operation.TheVariants.{Both, Either, Without}
use Rattle.pair_operation.specs.Result.{keeps, sieve}
use Rattle.pair_dense.specs.Inside.Words.{word_of, steps_in}

-- ---- one bit at a time

-- a test as a bit
abbrev bit : Bool → ℕ
bit b = pick b 1 0

word_digits : (op : Operation) (a b : ℕ) (p q : Bool) → word_of op (bit p + 2 * a) (bit q + 2 * b) ≡ bit (keeps op p q) + 2 * word_of op a b
word_digits Both a b true true = and_digits a b 1 1 (omega arith) (omega arith)
word_digits Both a b true false = and_digits a b 1 0 (omega arith) (omega arith)
word_digits Both a b false true = and_digits a b 0 1 (omega arith) (omega arith)
word_digits Both a b false false = and_digits a b 0 0 (omega arith) (omega arith)
word_digits Either a b true true = or_digits a b 1 1 (omega arith) (omega arith)
word_digits Either a b true false = or_digits a b 1 0 (omega arith) (omega arith)
word_digits Either a b false true = or_digits a b 0 1 (omega arith) (omega arith)
word_digits Either a b false false = or_digits a b 0 0 (omega arith) (omega arith)
word_digits Without a b true true = omega (arith, and_digits a b 1 1 (omega arith) (omega arith), and_le_l a b)
word_digits Without a b true false = omega (arith, and_digits a b 1 0 (omega arith) (omega arith), and_le_l a b)
word_digits Without a b false true = omega (arith, and_digits a b 0 1 (omega arith) (omega arith), and_le_l a b)
word_digits Without a b false false = omega (arith, and_digits a b 0 0 (omega arith) (omega arith), and_le_l a b)

-- a bit in front of others
bits_first : (k o v : ℕ) (b : Bool) → bits_from (suc k) o (bit b + 2 * v) ≡ pick b (o ∷ bits_from k (suc o) v) (bits_from k (suc o) v)
bits_first k o v true =
    let q : (1 + 2 * v) / 2 ≡ v = omega arith in
    bits_odd k o (1 + 2 * v) (omega arith) ∙ ap (λ (n : ℕ). o ∷ bits_from k (suc o) n) q
bits_first k o v false =
    let q : (0 + 2 * v) / 2 ≡ v = omega arith in
    bits_even k o (0 + 2 * v) (λ e. omega arith) ∙ ap (bits_from k (suc o)) q

-- THE STEPS OF A JOINED WORD ARE THOSE THAT THE OPERATION KEEPS
bits_joined : (op : Operation) (k o : ℕ) (xs ys : List ℕ)
    → bits_from k o (word_of op (bits_of k o xs) (bits_of k o ys)) ≡ sieve k o (λ (z : ℕ). keeps op (has z xs) (has z ys))
unfolding bits_of sieve
bits_joined op zero o xs ys = bits_none o (word_of op 0 0)
bits_joined op (suc k) o xs ys =
    let v : ℕ = word_of op (bits_of k (suc o) xs) (bits_of k (suc o) ys) in
    let b : Bool = keeps op (has o xs) (has o ys) in
    ap (bits_from (suc k) o) (word_digits op (bits_of k (suc o) xs) (bits_of k (suc o) ys) (has o xs) (has o ys))
    ∙ bits_first k o v b
    ∙ ap (λ (l : List ℕ). pick b (o ∷ l) l) (bits_joined op k (suc o) xs ys)

-- ---- all words of a window

sieve-append : (j k o : ℕ) (p : ℕ → Bool) → sieve (j + k) o p ≡ sieve j o p ++ sieve k (o + j) p
unfolding sieve
sieve-append zero k o p =
    let y : 0 + k ≡ k = omega arith in
    let z : o ≡ o + 0 = omega arith in
    ap (λ (n : ℕ). sieve n o p) y ∙ ap (λ (n : ℕ). sieve k n p) z
sieve-append (suc j) k o p =
    let y : suc j + k ≡ suc (j + k) = omega arith in
    let z : suc o + j ≡ o + suc j = omega arith in
    ap (λ (n : ℕ). sieve n o p) y
    ∙ ap (λ (l : List ℕ). pick (p o) (o ∷ l) l) (sieve-append j k (suc o) p ∙ ap (λ (n : ℕ). sieve j (suc o) p ++ sieve k n p) z)
    ∙ by (p o)
  where
    by : (b : Bool)
        → pick b (o ∷ (sieve j (suc o) p ++ sieve k (o + suc j) p)) (sieve j (suc o) p ++ sieve k (o + suc j) p)
        ≡ pick b (o ∷ sieve j (suc o) p) (sieve j (suc o) p) ++ sieve k (o + suc j) p
    by true = refl
    by false = refl

-- THE STEPS OF TWO JOINED WINDOWS
pub steps_in_words : (op : Operation) (k o : ℕ) (xs ys : List ℕ)
    → steps_in op o (words_from k o xs) (words_from k o ys) ≡ sieve (word_bits * k) o (λ (z : ℕ). keeps op (has z xs) (has z ys))
unfolding steps_in words_from sieve
steps_in_words op zero o xs ys = refl
steps_in_words op (suc k) o xs ys =
    let p : ℕ → Bool = λ (z : ℕ). keeps op (has z xs) (has z ys) in
    let q : word_bits + word_bits * k ≡ word_bits * suc k = omega arith in
    ap₂ (λ (l m : List ℕ). l ++ m) (bits_joined op word_bits o xs ys) (steps_in_words op k (o + word_bits) xs ys)
    ∙ sym (sieve-append word_bits (word_bits * k) o p)
    ∙ ap (λ (n : ℕ). sieve n o p) q

-- ---- word by word

module _ (op : Operation) where
  -- wherever the window is
  pub length_steps_moved : (o : ℕ) (ms ns : List ℕ) → length (steps_in op o ms ns) ≡ length (steps_in op 0 ms ns)
  unfolding steps_in
  length_steps_moved o ms ns = go ms ns o 0
    where
      go : (ms ns : List ℕ) (o p : ℕ) → length (steps_in op o ms ns) ≡ length (steps_in op p ms ns)
      go [] ns o p = refl
      go (m ∷ ms) [] o p = refl
      go (m ∷ ms) (n ∷ ns) o p =
          let v : ℕ = word_of op m n in
          omega (
            arith,
            length-append (bits_from word_bits o v) (steps_in op (o + word_bits) ms ns),
            length-append (bits_from word_bits p v) (steps_in op (p + word_bits) ms ns),
            length_bits_moved word_bits o v,
            length_bits_moved word_bits p v,
            go ms ns (o + word_bits) (p + word_bits),
          )

  -- the steps from word `i` on
  abbrev pub left_in : ℕ → List ℕ → List ℕ → ℕ → List ℕ
  left_in o ms ns i = steps_in op (o + word_bits * i) (drop i ms) (drop i ns)

  module _ (o : ℕ) (ms ns : List ℕ) where
    pub left_start : left_in o ms ns 0 ≡ steps_in op o ms ns
    left_start =
        let z : o + word_bits * 0 ≡ o = omega arith in
        ap (λ (p : ℕ). steps_in op p ms ns) z

    -- the joined word `v` at `i`, and the others
    module _ (i v : ℕ) (h : i < length ms) (same : length ms ≡ length ns) (e : v ≡ word_of op (get_or ms i 0) (get_or ns i 0)) where
      pub left_turn : left_in o ms ns i ≡ bits_from word_bits (o + word_bits * i) v ++ left_in o ms ns (i + 1)
      unfolding steps_in
      left_turn =
          let z : o + word_bits * i + word_bits ≡ o + word_bits * (i + 1) = omega arith in
          ap₂ (steps_in op (o + word_bits * i)) (drop_one ms i 0 h) (drop_one ns i 0 (omega arith))
          ∙ ap₂ (λ (w p : ℕ). bits_from word_bits (o + word_bits * i) w ++ steps_in op p (drop (i + 1) ms) (drop (i + 1) ns)) (sym e) z

      pub left_length : length (left_in o ms ns i) ≡ length (bits_from word_bits 0 v) + length (left_in o ms ns (i + 1))
      left_length =
          ap length left_turn
          ∙ length-append (bits_from word_bits (o + word_bits * i) v) (left_in o ms ns (i + 1))
          ∙ ap (λ (n : ℕ). n + length (left_in o ms ns (i + 1))) (length_bits_moved word_bits (o + word_bits * i) v)

    pub left_end : (i : ℕ) → length ms ≤ i → left_in o ms ns i ≡ []
    unfolding steps_in
    left_end i h = ap (λ (l : List ℕ). steps_in op (o + word_bits * i) l (drop i ns)) (drop_of_length-le ms {i = i} h)
