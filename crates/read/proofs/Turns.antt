-- The loops of `blocks` and `put_blocks`, turn by turn: the answer goes on from each entry's upto, and the steps of each block are the next that
-- are stored.
-- Assumes nothing.
use mathlib.Core.Path.{◌≡◌, refl, sym, ap, ◌∙◌}
use mathlib.Core.List.{List, ◌++◌}
use Prim.Native.Nat.{ℕ, ◌+◌, ◌^◌, ◌≤◌, ◌<◌}
use native.Mathlib.Omega.{arith}
use lib.ListN.{length, length-append}
use lib.Seq.{sets}
use Rattle.std.specs.Prelude.{Ok, Err}
use Rattle.lists.specs.Parts.{part}
use Rattle.lists.specs.Stores.{Puts}
use Rattle.lists.proofs.Stores.{Storing, Storing_start, Storing_run, storing_end}
use Rattle.rules.specs.Limits.Laws.{most_counted}
use Rattle.rules.specs.Refusals.{refusal}
use Rattle.image.specs.declared.Entry.{Entry}
use Rattle.image.specs.declared.Before.{Before}
use Rattle.image.specs.Entry.{entry_place, entry_at, entries_at, start, after_entry}
use Rattle.image.specs.Block.{block_of}
use Rattle.image.specs.Verdict.{Verdict, taken, refused, prepend, blocks_of}
use Rattle.image.proofs.Blocks.{blocks_turn, blocks_halt, blocks_end}
use Rattle.image.specs.Taken.{list_in, Takes}
use Rattle.image_directory.specs.Sound as directory
use Rattle.image_directory.proofs.Ahead.{left, left_start, Ahead, Ahead-start, ahead_Clean, Ahead_next, Takes_list, Split_here}
use Rattle.image_block.specs.Block.{steps_in, number_of, Sound}
use Rattle.image_block.proofs.Numbers.{number_Good, number_wrong}
use Rattle.image_block.proofs.Steps.{part_size, steps_good, Sound_good}
use Rattle.read.specs.Inside.{answer_of, Ready}

-- ---- checking: the answer is that on the blocks from `i` on, counted on from the upto before

pub record Checking (s pay : List ℕ) (m : ℕ) (b : Before) (i : ℕ) : Type 0 where
  pub ahead : Ahead s pay m b i
  pub fits : b.upto < 2 ^ 32
  pub answer : answer_of b.upto (blocks_of pay b i (left s m i)) ≡ answer_of 0 (blocks_of pay start 0 (entries_at m s (entry_place 0)))

pub Checking-start : (s pay : List ℕ) (m : ℕ) → directory.Sound s pay m → Checking s pay m start 0
Checking-start s pay m d =
    record {
      ahead = Ahead-start s pay m d;
      fits = omega arith;
      answer = ap (λ (es : List Entry). answer_of 0 (blocks_of pay start 0 es)) (sym (left_start s m));
    }

answer_prepend : (c : ℕ) (xs : List ℕ) (v : Verdict) → answer_of c (prepend xs v) ≡ answer_of (c + length xs) v
answer_prepend c xs (taken ys) =
    let q : c + length (xs ++ ys) ≡ c + length xs + length ys = omega (arith, length-append xs ys) in
    ap (λ (k : ℕ). Ok k) q
answer_prepend c xs (refused r) = refl

module _ {s pay : List ℕ} {m : ℕ} {b : Before} {i : ℕ} (c : Checking s pay m b i) where
  module _ (e : Entry) (here : e ≡ entry_at s (entry_place i)) (h : i < m) (n : ℕ) (is : n ≡ number_of (block_of b e (part pay b.end e.end))) where
    pub Checking_next : n ≡ 0 → Checking s pay m (after_entry e) (i + 1)
    Checking_next z =
        let k = ahead_Clean c.ahead e here h in
        let g = number_Good b e (part pay b.end e.end) n is z in
        let v = blocks_of pay (after_entry e) (i + 1) (left s m (i + 1)) in
        let q : e.upto ≡ b.upto + length g.list = omega (arith, g.count, k.upto) in
        record {
          ahead = Ahead_next c.ahead e here h;
          fits = omega (arith, k.few, most_counted);
          answer =
              ap (λ (x : ℕ). answer_of x v) q
              ∙ sym (ap (answer_of b.upto) (blocks_turn s pay m b i e here h g) ∙ answer_prepend b.upto g.list v)
              ∙ c.answer;
        }

    pub checking_halt : (n ≡ 0 → ⊥) → Err (refusal n i) ≡ answer_of 0 (blocks_of pay start 0 (entries_at m s (entry_place 0)))
    checking_halt z =
        sym (ap (answer_of b.upto) (blocks_halt s pay m b i e here h n (number_wrong b e (part pay b.end e.end) n is z))) ∙ c.answer

  pub checking_end : m ≤ i → Ok b.upto ≡ answer_of 0 (blocks_of pay start 0 (entries_at m s (entry_place 0)))
  checking_end h =
      let q : b.upto ≡ b.upto + 0 = omega arith in
      ap (λ (k : ℕ). Ok k) q ∙ sym (ap (answer_of b.upto) (blocks_end s pay m b i (omega (arith, c.ahead.within)))) ∙ c.answer

-- ---- storing: the steps of the blocks before `i` are stored, and those from there on are to go to `p`

pub record Putting (s pay : List ℕ) (m : ℕ) (out₀ out : List ℕ) (b : Before) (i p : ℕ) : Type 0 where
  pub ahead : Ahead s pay m b i
  pub takes : Takes (blocks_of pay b i (left s m i))
  pub stores : Storing out₀ 0 (list_in (blocks_of pay start 0 (entries_at m s (entry_place 0)))) out p (list_in (blocks_of pay b i (left s m i)))

pub Putting-start : (s pay : List ℕ) (m : ℕ) (out : List ℕ) → Ready s pay m (length out) → Putting s pay m out out start 0 0
Putting-start s pay m out r =
    record {
      ahead = Ahead-start s pay m r.sound;
      takes = rw (← left_start s m) r.takes;
      stores =
          rw (← left_start s m) (Storing_start out 0 (list_in (blocks_of pay start 0 (entries_at m s (entry_place 0)))) (omega (arith, r.room)));
    }

-- a block and those after it, where all are taken
record Halves (b : Before) (e : Entry) (part : List ℕ) (whole rest : Verdict) : Type 0 where
  sound : Sound b e part
  takes : Takes rest
  both : list_in whole ≡ steps_in b e part ++ list_in rest

module _ {s pay : List ℕ} {m : ℕ} {out₀ out : List ℕ} {b : Before} {i p : ℕ} (c : Putting s pay m out₀ out b i p) where
  module _ (e : Entry) (here : e ≡ entry_at s (entry_place i)) (h : i < m) (few : length pay < 2 ^ 32) where
    halves : Halves b e (part pay b.end e.end) (blocks_of pay b i (left s m i)) (blocks_of pay (after_entry e) (i + 1) (left s m (i + 1)))
    halves =
        let k = ahead_Clean c.ahead e here h in
        let x = Split_here s pay m b i e here h c.takes in
        let on : steps_in b e (part pay b.end e.end) ≡ x.first.list = steps_good x.first in
        let after : list_in (blocks_of pay (after_entry e) (i + 1) (left s m (i + 1))) ≡ x.others = ap list_in x.more in
        record {
          sound = Sound_good x.first k (part_size pay k few);
          takes = Takes_list x.more;
          both = sym x.both ∙ rw (on, after);
        }

    pub putting_sound : Sound b e (part pay b.end e.end)
    putting_sound = halves.sound

    pub putting_room : p + length (steps_in b e (part pay b.end e.end)) ≤ length out
    putting_room =
        let t = halves in
        let us = steps_in b e (part pay b.end e.end) in
        let rest = list_in (blocks_of pay (after_entry e) (i + 1) (left s m (i + 1))) in
        omega (arith, c.stores.room, ap length t.both, length-append us rest)

    pub putting_next : {out' : List ℕ} {p' : ℕ} → Puts out p (steps_in b e (part pay b.end e.end)) out' p'
        → Putting s pay m out₀ out' (after_entry e) (i + 1) p'
    putting_next w =
        let t = halves in
        let rest = list_in (blocks_of pay (after_entry e) (i + 1) (left s m (i + 1))) in
        record {
          ahead = Ahead_next c.ahead e here h;
          takes = t.takes;
          stores = Storing_run c.stores (steps_in b e (part pay b.end e.end)) rest t.both w.place w.stores;
        }

  pub putting_end : m ≤ i → out ≡ sets out₀ 0 (list_in (blocks_of pay start 0 (entries_at m s (entry_place 0))))
  putting_end h = (storing_end c.stores (ap list_in (blocks_end s pay m b i (omega (arith, c.ahead.within))))).stores
