-- The sizes of the image of a cut: its length, and that every number in it fits its four bytes.
-- Assumes nothing.
use mathlib.Core.Path.{◌≡◌, refl, ap}
use mathlib.Core.List.{List, [], ◌∷◌}
use Prim.Native.Nat.{ℕ, suc, ◌+◌, ◌*◌, ◌^◌, ◌≤◌, ◌<◌}
use native.Mathlib.Omega.{arith}
use lib.ListN.{length, get_or, length-append, get_or-eq_default}
use Rattle.lists.specs.Rising.{Rising, past}
use Rattle.lists.specs.Parts.{part}
use Rattle.lists.proofs.Choice.{by_lt}
use Rattle.lists.proofs.Rising.{Rising-get_or_below}
use Rattle.lists.proofs.Parts.{length_part}
use Rattle.lists.proofs.Ranks.{beyond-part, beyond-past, rising_part}
use Rattle.rules.specs.Sizes.{number_size, entry_size}
use Rattle.rules.specs.Listed.{Listed}
use Rattle.rules.specs.Limits.{largest_step}
use Rattle.rules.specs.Limits.Laws.{largest_coded, most_counted}
use Rattle.rules.proofs.Numbers.{length_little}
use Rattle.cut.specs.Cut.{Block, Cuts}
use Rattle.cut.proofs.Blocks.{number-le}
use Rattle.cut.proofs.Cuts.{Cuts-le}
use Rattle.image.specs.Grammar.{part_of, payload_of, entry_of, entries_of, image_of}
use Rattle.image.proofs.Entries.{Narrows, length_directory}
use Rattle.image.proofs.Parts.{length-bytes_of_least, length-bytes_of_most}

module _ (xs : List ℕ) where
  pub length-entries_of : (i e : ℕ) (bs : List Block) → length (entries_of xs i e bs) ≡ length bs
  length-entries_of i e [] = refl
  length-entries_of i e (b ∷ bs) = ap suc (length-entries_of b.upto (e + length (part_of xs i b)) bs)

  pub length-payload_of : (i : ℕ) (b : Block) (bs : List Block)
      → length (payload_of xs i (b ∷ bs)) ≡ length (part_of xs i b) + length (payload_of xs b.upto bs)
  length-payload_of i b bs = length-append (part_of xs i b) (payload_of xs b.upto bs)

  -- AN IMAGE HAS 8 + 13·m + p BYTES
  pub length_image : (cut : List Block)
      → length (image_of xs cut) ≡ number_size + number_size + entry_size * length cut + length (payload_of xs 0 cut)
  unfolding image_of
  length_image cut =
      simp (length-append, length_little, length_directory (entries_of xs 0 0 cut), length-entries_of 0 0 cut) (omega arith)

  -- ---- a rising list

  module _ (r : Rising 0 xs) where
    module _ (i : ℕ) (b : Block) (h : i < b.upto) (k : b.upto ≤ length xs) where
      part_most : length (part_of xs i b) + 4 * past xs i ≤ 4 * past xs b.upto
      part_most =
          omega (
            arith,
            length-bytes_of_most (past xs i) (part xs i b.upto) (rising_part xs i b.upto (omega arith) r) b.kind,
            beyond-part xs i b.upto (omega arith) k,
          )

      -- a part has a byte at least
      pub part_least : 0 < length (part_of xs i b)
      part_least =
          length-bytes_of_least (past xs i) (part xs i b.upto) (rising_part xs i b.upto (omega arith) r) b.kind
          (omega (arith, length_part xs i b.upto (omega arith) k))

    payload_most : (i : ℕ) (bs : List Block) → Cuts i (length xs) bs → length (payload_of xs i bs) + 4 * past xs i ≤ 4 * past xs (length xs)
    payload_most i [] c = omega (arith, ap (past xs) c)
    payload_most i (b ∷ bs) c =
        omega (
          arith,
          length-payload_of i b bs,
          part_most i b c.0 (Cuts-le b.upto (length xs) bs c.1),
          payload_most b.upto bs c.1,
        )

-- ---- a list of document 01

module _ (xs : List ℕ) (l : Listed xs) where
  -- a step is within the limit
  pub step_le : (k : ℕ) → get_or xs k 0 ≤ largest_step
  step_le k =
      by_lt k (length xs) (λ h. omega (arith, Rising-get_or_below 0 xs k l.rising h, l.small))
      (λ h. omega (arith, get_or-eq_default xs 0 {n = k} h))

  -- the payload's length fits
  pub payload_fits : (cut : List Block) → Cuts 0 (length xs) cut → length (payload_of xs 0 cut) < 2 ^ 32
  payload_fits cut c = omega (arith, payload_most xs l.rising 0 cut c, beyond-past xs, l.small, largest_coded)

  -- and so do the numbers of the entries
  pub narrow_entries : (i e : ℕ) (bs : List Block) → Cuts i (length xs) bs → e + length (payload_of xs i bs) < 2 ^ 32
      → Narrows (entries_of xs i e bs)
  narrow_entries i e [] c h = tt
  narrow_entries i e (b ∷ bs) c h =
      let k : b.upto ≤ length xs = Cuts-le b.upto (length xs) bs c.1 in
      let s : (entry_of xs i e b).last ≤ largest_step = step_le _ in
      let n : length (payload_of xs i (b ∷ bs)) ≡ length (part_of xs i b) + length (payload_of xs b.upto bs) = length-payload_of xs i b bs in (
        record {
          kind = omega (arith, number-le b.kind);
          last = omega (arith, largest_coded);
          upto = omega (arith, l.few, most_counted);
          end = omega arith;
        },
        narrow_entries b.upto (e + length (part_of xs i b)) bs c.1 (omega arith),
      )
