-- The line of a block of an accepted image: it has a first step, and the entry states the others.
-- Assumes nothing.
use mathlib.Core.Path.{◌≡◌, sym, ap, ◌∙◌}
use mathlib.Core.List.{List}
use Prim.Native.Nat.{ℕ, ◌-◌, ◌<◌}
use native.Mathlib.Omega.{arith}
use lib.ListN.{length, get_or}
use Rattle.lists.proofs.Parts.{length_part}
use Rattle.lists.proofs.Rising.{beyond-last}
use Rattle.image.specs.declared.Before.{Before}
use Rattle.image.specs.declared.Entry.{Entry}
use Rattle.image.specs.Entry.{before_at}
use Rattle.image.specs.Taken.{payload_in}
use Rattle.image_directory.specs.Part.{part_in}
use Rattle.image_block.specs.Block.{steps_in}
use Rattle.image_block.proofs.Steps.{length_steps, beyond_steps}
use Rattle.blocks_lines.specs.Listing.{entry_of, line_in, line_at}
use Rattle.blocks_lines.proofs.Blocks.{Whole}

module _ {s : List ℕ} {b : Before} {e : Entry} (w : Whole s b e) where
  pub whole_some : 0 < e.upto - b.upto
  whole_some = omega (arith, w.clean.upto)

  pub line_whole : (i first : ℕ) → first ≡ get_or (steps_in b e (part_in s b e)) 0 0
      → record { number = i; kind = e.kind; first = first; last = e.last; steps = e.upto - b.upto; bytes = e.end - b.end }
      ≡ line_in i b e (payload_in s)
  line_whole i first h =
      let xs : List ℕ = steps_in b e (part_in s b e) in
      let n : e.upto - b.upto ≡ length xs = sym (length_steps w.sound) in
      let l : e.last ≡ get_or xs (length xs - 1) 0 =
      omega (arith, beyond-last b.next xs (omega (arith, n, whole_some)), beyond_steps w.sound)
      in
      let p : e.end - b.end ≡ length (part_in s b e) =
      sym (length_part (payload_in s) b.end e.end (omega (arith, w.clean.end)) w.clean.within)
      in
      λ j. record { number = i; kind = e.kind; first = h j; last = l j; steps = n j; bytes = p j }

-- the line of the entry with a number
pub line_at_lem : (s : List ℕ) (i : ℕ) (b : Before) → b ≡ before_at s i → (e : Entry) → e ≡ entry_of s i → line_in i b e (payload_in s) ≡ line_at s i
unfolding line_at
line_at_lem s i b ib e ie =
    ap (λ (y : Entry). line_in i b y (payload_in s)) ie ∙ ap (λ (y : Before). line_in i y (entry_of s i) (payload_in s)) ib
