-- Laying words of a row into a window: one word after the other, and what is left of the row then.
-- Assumes nothing.
use mathlib.Core.Path.{◌≡◌, refl, sym, ap, ◌∙◌}
use mathlib.Core.List.{List, [], ◌∷◌, ◌++◌, append-nil, append_assoc}
use Prim.Native.Nat.{ℕ, ◌+◌, ◌-◌, ◌*◌, ◌≤◌, ◌<◌}
use native.Mathlib.Omega.{arith}
use lib.ListN.{length, take, drop}
use lib.Seq.{take-take}
use Rattle.lists.specs.Rising.{beyond}
use Rattle.lists.specs.Parts.{part}
use Rattle.lists.specs.Bytes.{Bytes}
use Rattle.lists.proofs.Rising.{beyond-append, beyond_rest}
use Rattle.rules.specs.Numbers.{little}
use Rattle.row.specs.Row.{bits_from}
use Rattle.row.specs.Words.{word_bytes, word_bits}
use Rattle.row.proofs.Bits.{beyond_bits}
use Rattle.pair_window.specs.Window.{words_from, Gains, Adds}
use Rattle.image_walk.specs.declared.Rest.{Rest}
use Rattle.image_walk.specs.Walk.{row_in}
use Rattle.image_walk.specs.Turns.{left, Readable}
use Rattle.pair_lay_row.specs.Inside.Rows.{Rows}
use Rattle.image_walk.proofs.Shapes.{left_row}
use Rattle.image_walk.proofs.Loading.{row_load}
use Rattle.image_walk.proofs.Standing.{row_Readable}

-- the first word of what is left stands in a part of its own
pub word_part : (pay : List ℕ) (at end : ℕ) → at + word_bytes ≤ end → take word_bytes (part pay at (at + word_bytes)) ≡ take word_bytes (part pay at end)
word_part pay at end h =
    take-take word_bytes (at + word_bytes - at) (drop at pay) (omega arith) ∙ sym (take-take word_bytes (end - at) (drop at pay) (omega arith))

-- where a list that is not empty ends does not hang on where it may begin
beyond_any : (a b : ℕ) (xs : List ℕ) → (xs ≡ [] → ⊥) → beyond a xs ≡ beyond b xs
beyond_any a b [] h = absurd (h refl)
beyond_any a b (x ∷ xs) h = refl

-- what is left after `i` words
abbrev pub rest_after : Rest → ℕ → Rest
rest_after p i =
    record {
      next = p.next;
      from = p.from + word_bits * i;
      kind = p.kind;
      at = p.at + word_bytes * i;
      end = p.end;
      block = p.block;
    }

-- ---- the loop over words: `i` of them are laid

pub record Rowing (pay : List ℕ) (p : Rest) (o : ℕ) (words : List ℕ) (i : ℕ) (words' : List ℕ) : Type 0 where
  pub laid : List ℕ
  pub same : row_in p.from pay p.at p.end ≡ laid ++ row_in (p.from + word_bits * i) pay (p.at + word_bytes * i) p.end
  pub before : beyond p.from laid ≤ p.from + word_bits * i
  pub size : length words' ≡ length words
  pub are : Gains o words laid words'

module _ (pay : List ℕ) (p : Rest) (o : ℕ) (words : List ℕ) where
  pub rowing_start : Rowing pay p o words 0 words
  rowing_start =
      let f : p.from ≡ p.from + word_bits * 0 = omega arith in
      let a : p.at ≡ p.at + word_bytes * 0 = omega arith in
      record {
        laid = [];
        same = ap (λ (n : ℕ). row_in n pay p.at p.end) f ∙ ap (λ (n : ℕ). row_in (p.from + word_bits * 0) pay n p.end) a;
        before = omega arith;
        size = refl;
        are = λ xs e. e ∙ ap (words_from (length words) o) (sym (append-nil xs));
      }

  module _ (i : ℕ) (words' : List ℕ) (s : Rowing pay p o words i words') where
    pub rowing_turn : Bytes pay → o ≤ p.from → (v : ℕ) → v ≡ little (take word_bytes (part pay (p.at + word_bytes * i) p.end))
        → (words'' : List ℕ) → length words'' ≡ length words' → Adds words' (λ (q : ℕ). bits_from word_bits (q + (p.from - o + word_bits * i)) v) words''
        → Rowing pay p o words (i + 1) words''
    rowing_turn b h v e words'' n a =
        let low : ℕ = p.from + word_bits * i in
        let bits : List ℕ = bits_from word_bits low v in
        let f : low + word_bits ≡ p.from + word_bits * (i + 1) = omega arith in
        let g : p.at + word_bytes * i + word_bytes ≡ p.at + word_bytes * (i + 1) = omega arith in
        let q : o + (p.from - o + word_bits * i) ≡ low = omega arith in
        let k : ℕ = length words in
        record {
          laid = s.laid ++ bits;
          same =
              s.same
              ∙ ap (λ (l : List ℕ). s.laid ++ l)
              (row_load low pay (p.at + word_bytes * i) p.end v b e
              ∙ ap (λ (m : ℕ). bits ++ row_in m pay (p.at + word_bytes * i + word_bytes) p.end) f
              ∙ ap (λ (m : ℕ). bits ++ row_in (p.from + word_bits * (i + 1)) pay m p.end) g)
              ∙ sym (append_assoc s.laid bits (row_in (p.from + word_bits * (i + 1)) pay (p.at + word_bytes * (i + 1)) p.end));
          before =
              omega (
                arith,
                beyond-append p.from s.laid bits,
                beyond_rest low (beyond p.from s.laid) (low + word_bits) [] bits (omega (arith, s.before)) (beyond_bits word_bits low v),
              );
          size = n ∙ s.size;
          are =
              λ xs is.
              a o (xs ++ s.laid) (s.are xs is ∙ ap (λ (m : ℕ). words_from m o (xs ++ s.laid)) (sym s.size))
              ∙ ap (λ (m : ℕ). words_from m o ((xs ++ s.laid) ++ bits_from word_bits (o + (p.from - o + word_bits * i)) v)) s.size
              ∙ ap (λ (m : ℕ). words_from k o ((xs ++ s.laid) ++ bits_from word_bits m v)) q
              ∙ ap (words_from k o) (append_assoc xs s.laid bits);
        }

-- ---- the end

-- nothing was laid
pub rows_none : (pay : List ℕ) (p : Rest) (o : ℕ) (words : List ℕ) → Readable pay p → Rows pay p o words words p
rows_none pay p o words r =
    record {
      laid = [];
      readable = r;
      block = refl;
      end = refl;
      is = refl;
      last = refl;
      before = omega arith;
      are = λ xs e. e ∙ ap (words_from (length words) o) (sym (append-nil xs));
    }

module _ (pay : List ℕ) (p : Rest) (r : Readable pay p) (k : p.kind ≡ 0 → ⊥) (o : ℕ) (words words' : List ℕ) (i : ℕ)
    (s : Rowing pay p o words i words') (on : p.at + word_bytes * i < p.end) where
  whole : left pay p ≡ s.laid ++ left pay (rest_after p i)
  whole = left_row pay p k ∙ s.same ∙ ap (λ (l : List ℕ). s.laid ++ l) (sym (left_row pay (rest_after p i) k))

  -- the row's last one is still to come
  left_some : left pay (rest_after p i) ≡ [] → ⊥
  left_some e =
      omega (
        arith,
        r.tight k (omega arith),
        ap (beyond p.next) (whole ∙ ap (λ (l : List ℕ). s.laid ++ l) e ∙ append-nil s.laid),
        beyond_rest p.from p.next (p.from + word_bits * i) [] s.laid (omega (arith, r.order k)) s.before,
      )

  left_last : beyond p.next (left pay (rest_after p i)) ≡ beyond p.next (left pay p)
  left_last =
      beyond_any p.next (beyond p.next s.laid) (left pay (rest_after p i)) left_some
      ∙ sym (beyond-append p.next s.laid (left pay (rest_after p i)))
      ∙ ap (beyond p.next) (sym whole)

  pub Rows_laid : p.from + word_bits * i ≤ o + word_bits * length words → Rows pay p o words words' (rest_after p i)
  Rows_laid h =
      record {
        laid = s.laid;
        readable =
            row_Readable r.few r.within k (omega (arith, left_last, r.small)) (omega (arith, r.order k))
            (λ g. omega (arith, left_last, r.tight k (omega arith)));
        block = refl;
        end = refl;
        is = whole;
        last = left_last;
        before = beyond_rest p.from o (o + word_bits * length words) [] s.laid (omega arith) (omega (arith, s.before));
        are = s.are;
      }
