-- Laws of one block's bytes, of either kind: reading returns the steps that were written, and writing the bytes that were read; and how
-- many bytes there are.
-- Assumes nothing.
use mathlib.Core.Path.{◌≡◌, sym, ap, ◌∙◌, subst}
use mathlib.Core.List.{List}
use Prim.Native.Nat.{ℕ, ◌+◌, ◌-◌, ◌*◌, ◌≤◌, ◌<◌}
use native.Mathlib.Omega.{arith}
use lib.ListN.{length}
use Rattle.lists.specs.Rising.{Rising, beyond}
use Rattle.lists.specs.Bytes.{Bytes}
use Rattle.lists.proofs.Rising.{Rising-length}
use Rattle.rules.specs.Limits.{largest_step}
use Rattle.rules.specs.Limits.Laws.{largest_coded}
use Rattle.codes.specs.Codes.{steps_from}
use Rattle.codes.proofs.Codes.{steps_read, steps_written, length_codes_least, length_codes_most, Bytes_codes}
use Rattle.row.specs.Row.{row_steps, row_size, row_of}
use Rattle.row.proofs.Row.{Rising_row}
use Rattle.row.proofs.Written.{length_row, Bytes_row, row_read, row_written}
use Rattle.cut.specs.Cut.{Kind, codes, row, number}
use Rattle.image.specs.declared.Entry.{Entry}
use Rattle.image.specs.declared.Before.{Before}
use Rattle.image.specs.Block.{steps, in_codes, in_part, block_of}
use Rattle.image.specs.Grammar.{bytes_of}
use Rattle.image.proofs.Found.{part_codes, part_row, codes_found, row_within, row_found, judged_good}
use Rattle.image.proofs.Blocks.{Good, block_part}

module _ (o : ℕ) (ys : List ℕ) (r : Rising o ys) where
  pub length-bytes_of_least : (k : Kind) → 0 < length ys → 0 < length (bytes_of k o ys)
  length-bytes_of_least codes h = omega (arith, length_codes_least o ys)
  length-bytes_of_least row h = omega (arith, length_row o ys, Rising-length o ys r)

  -- at most four bytes for each step of the span
  pub length-bytes_of_most : (k : Kind) → length (bytes_of k o ys) + 4 * o ≤ 4 * beyond o ys
  length-bytes_of_most codes = omega (arith, length_codes_most o ys, Rising-length o ys r)
  length-bytes_of_most row = omega (arith, length_row o ys, Rising-length o ys r)

  pub Bytes-bytes_of : (k : Kind) → beyond o ys ≤ largest_step + 1 → Bytes (bytes_of k o ys)
  Bytes-bytes_of codes h = Bytes_codes o ys r (omega (arith, largest_coded))
  Bytes-bytes_of row h = Bytes_row o ys

-- READING RETURNS THE STEPS
module _ (b : Before) (e : Entry) (ys : List ℕ)
    (r : Rising b.next ys) (last : beyond b.next ys ≡ e.last + 1) (small : e.last ≤ largest_step) where
  part_found : (k : Kind) → e.kind ≡ number k → in_part b e (bytes_of k b.next ys) ≡ steps ys
  part_found codes h =
      part_codes b e (bytes_of codes b.next ys) h ∙ ap in_codes (steps_read b.next ys r (omega (arith, largest_coded)))
  part_found row h =
      let o : ℕ = b.next in
      let part : List ℕ = row_of o ys in
      let back : row_steps o part ≡ ys = row_read o ys r in
      part_row b e part (λ z. omega arith)
      ∙ row_within o (e.last + 1) part (length_row o ys ∙ ap (λ (t : ℕ). row_size (t - o)) last) (omega (arith, ap (beyond o) back))
      ∙ ap (λ (l : List ℕ). steps l) back

  pub block_read : (k : Kind) → e.kind ≡ number k → length ys ≡ e.upto - b.upto → block_of b e (bytes_of k b.next ys) ≡ steps ys
  block_read k h n = block_part b e (bytes_of k b.next ys) (part_found k h) ∙ judged_good b e ys n last

-- AND WRITING THE BYTES
module _ (b : Before) (e : Entry) (part : List ℕ) (w : Bytes part) (g : Good b e part) where
  pub block_written : (k : Kind) → e.kind ≡ number k → (bytes_of k b.next g.list ≡ part) × Rising b.next g.list
  block_written codes h =
      steps_written b.next part g.list w (codes_found (steps_from b.next part 0) (sym (part_codes b e part h) ∙ g.found))
  block_written row h =
      let o : ℕ = b.next in
      let f = row_found o (e.last + 1) part (sym (part_row b e part (λ z. omega arith)) ∙ g.found) in
      let top : e.last + 1 ≡ beyond o (row_steps o part) = sym g.last ∙ ap (beyond o) (sym f.1) in (
        ap (row_of o) (sym f.1) ∙ row_written o part w (f.0 ∙ ap (λ (t : ℕ). row_size (t - o)) top),
        subst (Rising o) f.1 (Rising_row o part),
      )
