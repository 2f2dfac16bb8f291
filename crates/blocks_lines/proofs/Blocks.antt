-- Each block of an accepted image is clean and sound, and its part lies within the image.
-- Assumes nothing.
use mathlib.Core.Path.{◌≡◌, sym, subst}
use mathlib.Core.List.{List}
use Prim.Native.Nat.{ℕ, zero, suc, ◌≤◌, ◌<◌}
use native.Mathlib.Omega.{arith}
use native.Mathlib.Numerals.{add-one}
use lib.ListN.{length}
use Rattle.lists.specs.Bytes.{Bytes}
use Rattle.rules.specs.Numbers.{number_at}
use Rattle.image.specs.declared.Before.{Before}
use Rattle.image.specs.declared.Entry.{Entry}
use Rattle.image.specs.Entry.{start, after_entry, before_at}
use Rattle.image.specs.Verdict.{blocks_of}
use Rattle.image.proofs.Directory.{Clean}
use Rattle.image.specs.Taken.{Takes, Taken, entries_in, payload_in}
use Rattle.image_directory.specs.Part.{part_in, Within}
use Rattle.image_directory.specs.Sound as directory
use Rattle.image_directory.proofs.Ahead.{left, left_start, Ahead, Ahead-start, ahead_Clean, Ahead_next, Takes_list, Split_here}
use Rattle.image_directory.proofs.Whole.{Taken-Open, Taken_blocks}
use Rattle.image_block.specs.Block.{Sound}
use Rattle.image_block.proofs.Steps.{part_size, Sound_good}
use Rattle.blocks_lines.specs.Listing.{entry_of}

-- what is known before block `i`
record Reached (s pay : List ℕ) (m i : ℕ) (b : Before) : Type 0 where
  ahead : Ahead s pay m b i
  takes : Takes (blocks_of pay b i (left s m i))

reached : (s : List ℕ) → directory.Sound s (payload_in s) (number_at s 0) → Takes (blocks_of (payload_in s) start 0 (entries_in s))
    → (i : ℕ) → i ≤ number_at s 0 → Reached s (payload_in s) (number_at s 0) i (before_at s i)
reached s d t zero h = record { ahead = Ahead-start s (payload_in s) (number_at s 0) d; takes = rw (← left_start s (number_at s 0)) t }
reached s d t (suc i) h =
    let p = reached s d t i (omega arith) in
    let e = entry_of s i in
    let q : i < number_at s 0 = omega arith in
    let x = Split_here s (payload_in s) (number_at s 0) (before_at s i) i e (λ j. e) q p.takes in
    subst (λ (j : ℕ). Reached s (payload_in s) (number_at s 0) j (after_entry e)) (add-one i)
    (record { ahead = Ahead_next p.ahead e (λ j. e) q; takes = Takes_list x.more })

-- a block of an accepted image
pub record Whole (s : List ℕ) (b : Before) (e : Entry) : Type 0 where
  pub clean : Clean (length (payload_in s)) b e
  pub inside : Within s b e
  pub sound : Sound b e (part_in s b e)

pub block_Whole : {s : List ℕ} → Bytes s → Taken s → (i : ℕ) → i < number_at s 0
    → (b : Before) → b ≡ before_at s i → (e : Entry) → e ≡ entry_of s i → Whole s b e
block_Whole {s} w t i h b ib e ie =
    let o = Taken-Open w t in
    let p = subst (Reached s (payload_in s) (number_at s 0) i) (sym ib) (reached s o.sound (Takes_list (Taken_blocks s t)) i (omega arith)) in
    let c = ahead_Clean p.ahead e ie h in
    let x = Split_here s (payload_in s) (number_at s 0) b i e ie h p.takes in
    record {
      clean = c;
      inside = record { order = omega (arith, c.end); within = omega (arith, c.within, o.size) };
      sound = Sound_good x.first c (part_size (payload_in s) c o.sound.few);
    }
