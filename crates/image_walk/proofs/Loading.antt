-- A row in a part of the payload, word by word: a word without a one is passed, and at a word with one the walk stands at the lowest.
-- Assumes nothing.
use mathlib.Core.Path.{◌≡◌, refl, sym, ap, ◌∙◌}
use mathlib.Core.List.{List, [], ◌∷◌, ◌++◌}
use Prim.Native.Nat.{ℕ, ◌+◌, ◌*◌, ◌^◌, ◌<◌}
use native.Mathlib.Omega.{arith}
use lib.Count.{count_trailing_zeros}
use lib.ListN.{take, drop}
use Rattle.lists.specs.Rising.{beyond}
use Rattle.lists.specs.Parts.{part}
use Rattle.lists.specs.Bytes.{Bytes}
use Rattle.lists.proofs.Choice.{by_lt}
use Rattle.lists.proofs.Parts.{drop-part}
use Rattle.lists.proofs.Bytes.{Bytes-part}
use Rattle.rules.specs.Numbers.{little}
use Rattle.row.specs.Row.{byte_bits, bits_from, row_steps}
use Rattle.row.specs.Words.{word_bytes, word_bits}
use Rattle.row.proofs.Bits.{bits_zero, bits_lowest}
use Rattle.row.proofs.Words.{row_words}
use Rattle.image_walk.specs.declared.Walk.{Walk}
use Rattle.image_walk.specs.declared.Rest.{Rest}
use Rattle.image_walk.specs.Walk.{row_in, others, here}
use Rattle.image_walk.specs.Turns.{left, met_walk, Readable}
use Rattle.image_walk.specs.Inside.Moves.{Met}
use Rattle.image_walk.proofs.Shapes.{row_in_none, here_row, left_row, beyond_first}
use Rattle.image_walk.proofs.Standing.{met_Open}

-- ---- one word

module _ (o : ℕ) (pay : List ℕ) (at end v : ℕ) (w : Bytes pay) (e : v ≡ little (take word_bytes (part pay at end))) where
  pub row_load : row_in o pay at end ≡ bits_from word_bits o v ++ row_in (o + word_bits) pay (at + word_bytes) end
  row_load =
      row_words o (part pay at end) (Bytes-part pay at end w)
      ∙ ap (λ (n : ℕ). bits_from word_bits o n ++ row_steps (o + word_bits) (drop word_bytes (part pay at end))) (sym e)
      ∙ ap (λ (l : List ℕ). bits_from word_bits o v ++ row_steps (o + word_bits) l) (drop-part pay at end word_bytes)

  row_pass : v ≡ 0 → row_in o pay at end ≡ row_in (o + word_bits) pay (at + word_bytes) end
  row_pass z =
      row_load
      ∙ ap (λ (n : ℕ). bits_from word_bits o n ++ row_in (o + word_bits) pay (at + word_bytes) end) z
      ∙ ap (λ (l : List ℕ). l ++ row_in (o + word_bits) pay (at + word_bytes) end) (bits_zero word_bits o)

  row_stop : 0 < v → v < 2 ^ word_bits
      → row_in o pay at end
      ≡ (o + count_trailing_zeros word_bits v) ∷ (bits_from word_bits o (others v) ++ row_in (o + word_bits) pay (at + word_bytes) end)
  row_stop p h = row_load ∙ ap (λ (l : List ℕ). l ++ row_in (o + word_bits) pay (at + word_bytes) end) (bits_lowest word_bits o v p h)

-- ---- the loop over words: `bits` is the word at `at`, whose lowest bit stands for `low`, and the words before it had no one

pub record Seeking (pay : List ℕ) (p : Rest) (at low bits : ℕ) : Type 0 where
  pub on : at < p.end
  pub word : bits ≡ little (take word_bytes (part pay at p.end))
  pub fits : bits < 2 ^ word_bits
  pub same : row_in p.from pay p.at p.end ≡ row_in low pay at p.end
  pub place : low + byte_bits * p.at ≡ p.from + byte_bits * at

module _ (pay : List ℕ) (p : Rest) (r : Readable pay p) (k : p.kind ≡ 0 → ⊥) (h : p.at < p.end) where
  -- the row's last one is still to come
  row_some : left pay p ≡ [] → ⊥
  row_some e = omega (arith, r.tight k h, r.order k, ap (beyond p.next) e)

  module _ (w : Bytes pay) (at low bits : ℕ) (s : Seeking pay p at low bits) where
    -- a word without a one is not the last
    pub seeking_on : bits ≡ 0 → at + word_bytes < p.end
    seeking_on z =
        by_lt (at + word_bytes) p.end (λ g. g)
        (λ g.
        absurd (row_some
        (left_row pay p k ∙ s.same ∙ row_pass low pay at p.end bits w s.word z ∙ row_in_none (low + word_bits) pay (at + word_bytes) p.end g)))

    pub seeking_turn : (v : ℕ) → bits ≡ 0 → v ≡ little (take word_bytes (part pay (at + word_bytes) p.end)) → v < 2 ^ word_bits
        → Seeking pay p (at + word_bytes) (low + word_bits) v
    seeking_turn v z e f =
        record {
          on = seeking_on z;
          word = e;
          fits = f;
          same = s.same ∙ row_pass low pay at p.end bits w s.word z;
          place = omega (arith, s.place);
        }

    -- a word with a one
    pub seeking_met : (bits ≡ 0 → ⊥) → Met pay p (met_walk low bits (at + word_bytes) p.end p.block)
    seeking_met z =
        let v : Walk = met_walk low bits (at + word_bytes) p.end p.block in
        let is : left pay p ≡ v.step ∷ here pay v =
        left_row pay p k
        ∙ s.same
        ∙ row_stop low pay at p.end bits w s.word (omega arith) s.fits
        ∙ ap (λ (l : List ℕ). v.step ∷ l) (sym (here_row pay v z))
        in
        let b : beyond (v.step + 1) (here pay v) ≡ beyond p.next (left pay p) = beyond_first p.next v.step (left pay p) (here pay v) is in
        record {
          block = refl;
          end = refl;
          is = is;
          stands =
              met_Open pay (at + word_bytes) p.end p.block r.few r.within low bits z (omega (arith, r.small))
              (λ g. omega (arith, r.tight k h, s.place));
        }

pub Seeking-start : (pay : List ℕ) (p : Rest) (v : ℕ) → p.at < p.end → v ≡ little (take word_bytes (part pay p.at p.end))
    → v < 2 ^ word_bits
    → Seeking pay p p.at p.from v
Seeking-start pay p v h e f = record { on = h; word = e; fits = f; same = refl; place = refl }
