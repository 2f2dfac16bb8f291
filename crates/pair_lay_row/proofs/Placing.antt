-- One turn of laying a row into a window: the ones of the loaded word, whole or up to the window's end, and words after it.
-- Assumes nothing.
use mathlib.Core.Path.{◌≡◌, sym, ap, ◌∙◌}
use mathlib.Core.Bool.{Bool, ◌||◌, or-false}
use mathlib.Core.List.{List, [], ◌++◌, append_assoc}
use Prim.Native.Nat.{ℕ, ◌+◌, ◌*◌, ◌^◌, ◌≤◌, ◌<◌}
use native.Mathlib.Omega.{arith}
use lib.ListN.{length, length-append}
use Rattle.lists.specs.Rising.{Rising, beyond}
use Rattle.lists.specs.Members.{has}
use Rattle.lists.proofs.Rising.{beyond-append, beyond_rest}
use Rattle.lists.proofs.Members.{has-append, has_below}
use Rattle.rules.specs.Limits.{no_step}
use Rattle.row.specs.Row.{bits_from}
use Rattle.row.specs.Words.{word_bits}
use Rattle.row.proofs.Bits.{beyond_bits, bits_lowest}
use Rattle.pair_window.specs.Window.{words_from, Adds}
use Rattle.pair_window.proofs.Words.{words_same}
use Rattle.image.specs.Entry.{before_at}
use Rattle.image_walk.specs.declared.Walk.{Walk}
use Rattle.image_walk.specs.declared.Rest.{Rest}
use Rattle.image_walk.specs.Blocks.{later}
use Rattle.image_walk.specs.Walk.{ahead, Stands}
use Rattle.image_walk.specs.Turns.{left, Left, onward, Turned}
use Rattle.pair_lay_row.specs.Lays.{Lays}
use Rattle.pair_lay_row.specs.Inside.Rows.{word_rest, Cuts, Rows}
use Rattle.pair_lay_row.proofs.Cutting.{word_onward}

-- ---- steps past the window leave no bit

words_cut : (k o : ℕ) (xs ys zs : List ℕ) → Rising (o + word_bits * k) zs → words_from k o (xs ++ (ys ++ zs)) ≡ words_from k o (xs ++ ys)
words_cut k o xs ys zs r =
    words_same k o (xs ++ (ys ++ zs)) (xs ++ ys)
    (λ z h g.
    has-append z xs (ys ++ zs)
    ∙ ap (λ (t : Bool). has z xs || t)
    (has-append z ys zs ∙ ap (λ (t : Bool). has z ys || t) (has_below z (o + word_bits * k) zs r g) ∙ or-false (has z ys))
    ∙ sym (has-append z xs ys))

-- ---- what is left after some words of a row, in the image

module _ (s : List ℕ) {pay : List ℕ} {p q : Rest} {o : ℕ} {words words' : List ℕ} (y : Rows pay p o words words' q) where
  pub rows_left : Left s pay p → Left s pay q
  rows_left l =
      record {
        readable = y.readable;
        blocks = rw (y.block, y.end) l.blocks;
        last = y.last ∙ l.last ∙ ap (λ (i : ℕ). (before_at s i).next) (sym y.block);
      }

  rows_onward : onward s pay p ≡ y.laid ++ onward s pay q
  rows_onward =
      ap (λ (l : List ℕ). l ++ later s pay p.block) y.is
      ∙ append_assoc y.laid (left pay q) (later s pay p.block)
      ∙ ap (λ (i : ℕ). y.laid ++ (left pay q ++ later s pay i)) (sym y.block)

-- ---- one turn: the ones of the loaded word

module _ {s pay : List ℕ} {w : Walk} {o : ℕ} {words words' : List ℕ} {r : Walk} where
  pub Lays_word : (place bits : ℕ) → o + place ≡ w.step → bits_from word_bits w.step bits ≡ bits_from word_bits w.low w.bits
      → Adds words (λ (p : ℕ). bits_from word_bits (p + place) bits) words' → Cuts s pay w (o + word_bits * length words) r
      → Lays s pay w o words words' r
  Lays_word place bits q e a c =
      record {
        laid = c.laid;
        stands = c.stands;
        split = c.split;
        some = c.some;
        before = beyond_rest 0 o (o + word_bits * length words) [] c.laid (omega arith) c.before;
        are =
            λ xs is.
            a o xs is
            ∙ ap (λ (n : ℕ). words_from (length words) o (xs ++ bits_from word_bits n bits)) q
            ∙ ap (λ (l : List ℕ). words_from (length words) o (xs ++ l)) (e ∙ c.word)
            ∙ words_cut (length words) o xs c.laid c.others c.after;
      }

  -- the whole word, and words after it
  pub Lays_words : (place bits : ℕ) (q : Rest) (between : List ℕ) → o + place ≡ w.step
      → bits_from word_bits w.step bits ≡ bits_from word_bits w.low w.bits → length between ≡ length words
      → Adds words (λ (p : ℕ). bits_from word_bits (p + place) bits) between → Rows pay (word_rest w) o between words' q → Turned s pay q r
      → Stands s pay w → (w.bits ≡ 0 → ⊥) → w.bits < 2 ^ word_bits → w.step < no_step → w.low + word_bits ≤ o + word_bits * length words
      → Lays s pay w o words words' r
  Lays_words place bits q between at e n a y d t b fits h l =
      let word : List ℕ = bits_from word_bits w.low w.bits in
      let first : beyond o word ≤ o + word_bits * length words =
      beyond_rest w.low o (o + word_bits * length words) [] word (omega arith) (omega (arith, beyond_bits word_bits w.low w.bits))
      in
      record {
        laid = word ++ y.laid;
        stands = d.stands;
        split =
            word_onward t b fits h
            ∙ ap (λ (m : List ℕ). word ++ m) (rows_onward s y ∙ ap (λ (m : List ℕ). y.laid ++ m) (sym d.is))
            ∙ sym (append_assoc word y.laid (ahead s pay r));
        some =
            omega (arith, length-append word y.laid, ap length (bits_lowest word_bits w.low w.bits (omega arith) fits));
        before =
            omega (
              arith,
              beyond-append o word y.laid,
              beyond_rest o (beyond o word) (o + word_bits * length words) [] y.laid first (omega (arith, y.before, n)),
            );
        are =
            λ xs is.
            let mid : between ≡ words_from (length words) o (xs ++ word) =
            a o xs is
            ∙ ap (λ (m : ℕ). words_from (length words) o (xs ++ bits_from word_bits m bits)) at
            ∙ ap (λ (m : List ℕ). words_from (length words) o (xs ++ m)) e
            in
            y.are (xs ++ word) (mid ∙ ap (λ (m : ℕ). words_from m o (xs ++ word)) (sym n))
            ∙ ap (λ (m : ℕ). words_from m o ((xs ++ word) ++ y.laid)) n
            ∙ ap (words_from (length words) o) (append_assoc xs word y.laid);
      }
