-- Laws of the words of a window: each by its index, the same where the steps have the same members, and more steps laid over them.
-- Assumes nothing.
use mathlib.Core.Path.{◌≡◌, refl, sym, ap, ap₂, ◌∙◌}
use mathlib.Core.Bool.{Bool, true, false, ◌||◌}
use mathlib.Core.List.{List, [], ◌∷◌, ◌++◌}
use Prim.Native.Nat.{ℕ, zero, suc, ◌+◌, ◌*◌, ◌≤◌, ◌<◌}
use native.Mathlib.Omega.{arith}
use lib.Bits.{bit_or}
use lib.ListN.{length, get_or, replicate}
use lib.Seq.{ext_get_or}
use Rattle.lists.specs.Choice.{pick}
use Rattle.lists.specs.Members.{has}
use Rattle.lists.proofs.Members.{has-append}
use Rattle.row.specs.Row.{bits_of}
use Rattle.row.specs.Words.{word_bits}
use Rattle.row.proofs.Written.{bits_of_none, bits_of_same}
use Rattle.pair_window.specs.Window.{words_from}
use Rattle.pair_window.proofs.Digits.{or_digits}

-- ---- the words, one by one

pub words_none : (o : ℕ) (xs : List ℕ) → words_from 0 o xs ≡ []
unfolding words_from
words_none o xs = refl

pub words_cons : (k o : ℕ) (xs : List ℕ) → words_from (suc k) o xs ≡ bits_of word_bits o xs ∷ words_from k (o + word_bits) xs
unfolding words_from
words_cons k o xs = refl

pub length_words : (k o : ℕ) (xs : List ℕ) → length (words_from k o xs) ≡ k
length_words zero o xs = ap length (words_none o xs)
length_words (suc k) o xs = ap length (words_cons k o xs) ∙ ap suc (length_words k (o + word_bits) xs)

pub get_or_words : (k o : ℕ) (xs : List ℕ) (i : ℕ) → i < k → get_or (words_from k o xs) i 0 ≡ bits_of word_bits (o + word_bits * i) xs
get_or_words zero o xs i h = absurd (omega arith)
get_or_words (suc k) o xs zero h =
    let q : o ≡ o + word_bits * 0 = omega arith in
    ap (λ (l : List ℕ). get_or l 0 0) (words_cons k o xs) ∙ ap (λ (p : ℕ). bits_of word_bits p xs) q
get_or_words (suc k) o xs (suc i) h =
    let q : o + word_bits + word_bits * i ≡ o + word_bits * suc i = omega arith in
    ap (λ (l : List ℕ). get_or l (suc i) 0) (words_cons k o xs)
    ∙ get_or_words k (o + word_bits) xs i (omega arith)
    ∙ ap (λ (p : ℕ). bits_of word_bits p xs) q

-- a list of words that has them all
pub words_by_index : (k o : ℕ) (xs words : List ℕ) → length words ≡ k
    → ((i : ℕ) → i < k → get_or words i 0 ≡ bits_of word_bits (o + word_bits * i) xs) → words ≡ words_from k o xs
words_by_index k o xs words n f =
    ext_get_or 0 words (words_from k o xs) (n ∙ sym (length_words k o xs))
    (λ i h. f i (omega arith) ∙ sym (get_or_words k o xs i (omega arith)))

pub words_same : (k o : ℕ) (xs ys : List ℕ) → ((z : ℕ) → o ≤ z → z < o + word_bits * k → has z xs ≡ has z ys) → words_from k o xs ≡ words_from k o ys
words_same k o xs ys f =
    words_by_index k o ys (words_from k o xs) (length_words k o xs)
    (λ i h.
    get_or_words k o xs i h ∙ bits_of_same word_bits (o + word_bits * i) xs ys (λ z l g. f z (omega arith) (omega arith)))

-- no step, no bit
pub words_empty : (k o : ℕ) → words_from k o [] ≡ replicate k 0
words_empty zero o = words_none o []
words_empty (suc k) o = words_cons k o [] ∙ ap₂ (λ (v : ℕ) (l : List ℕ). v ∷ l) (bits_of_none word_bits o [] tt) (words_empty k (o + word_bits))

-- ---- more steps over those that are there

pub bits_of-append : (k o : ℕ) (xs ys : List ℕ) → bit_or (bits_of k o xs) (bits_of k o ys) ≡ bits_of k o (xs ++ ys)
unfolding bits_of
bits_of-append zero o xs ys = refl
bits_of-append (suc k) o xs ys =
    by (has o xs) (has o ys) ∙ rw (has-append o xs ys) (ap (λ (n : ℕ). pick (has o xs || has o ys) 1 0 + 2 * n) (bits_of-append k (suc o) xs ys))
  where
    by : (s t : Bool)
        → bit_or (pick s 1 0 + 2 * bits_of k (suc o) xs) (pick t 1 0 + 2 * bits_of k (suc o) ys)
        ≡ pick (s || t) 1 0 + 2 * bit_or (bits_of k (suc o) xs) (bits_of k (suc o) ys)
    by true true = or_digits (bits_of k (suc o) xs) (bits_of k (suc o) ys) 1 1 (omega arith) (omega arith)
    by true false = or_digits (bits_of k (suc o) xs) (bits_of k (suc o) ys) 1 0 (omega arith) (omega arith)
    by false true = or_digits (bits_of k (suc o) xs) (bits_of k (suc o) ys) 0 1 (omega arith) (omega arith)
    by false false = or_digits (bits_of k (suc o) xs) (bits_of k (suc o) ys) 0 0 (omega arith) (omega arith)

-- words each of which is what it was or the bits of the new steps
pub words_append : (k o : ℕ) (xs ys words words' : List ℕ) → words ≡ words_from k o xs → length words' ≡ k
    → ((i : ℕ) → i < k → get_or words' i 0 ≡ bit_or (get_or words i 0) (bits_of word_bits (o + word_bits * i) ys)) → words' ≡ words_from k o (xs ++ ys)
words_append k o xs ys words words' e n f =
    words_by_index k o (xs ++ ys) words' n
    (λ i h.
    f i h
    ∙ ap (λ (v : ℕ). bit_or v (bits_of word_bits (o + word_bits * i) ys)) (ap (λ (l : List ℕ). get_or l i 0) e ∙ get_or_words k o xs i h)
    ∙ bits_of-append word_bits (o + word_bits * i) xs ys)
