-- The image of a cut is taken: its counts, its directory and each of its blocks pass, and the steps are those of the list.
-- Assumes nothing.
use mathlib.Core.Path.{◌≡◌, refl, sym, ap, ◌∙◌}
use mathlib.Core.List.{List, [], ◌∷◌}
use Prim.Native.Nat.{ℕ, suc, ◌+◌, ◌-◌, ◌≤◌, ◌<◌}
use native.Mathlib.Omega.{arith}
use lib.ListN.{length, drop, drop_of_length-le}
use Rattle.std.specs.Prelude.{Ok}
use Rattle.lists.specs.Rising.{past}
use Rattle.lists.specs.Parts.{part}
use Rattle.lists.proofs.Parts.{length_part, part-drop, part_run, drop_run}
use Rattle.lists.proofs.Ranks.{past_suc, past-lt, beyond-part, rising_part}
use Rattle.rules.specs.Listed.{Listed}
use Rattle.cut.specs.Cut.{Block, Cuts}
use Rattle.cut.proofs.Blocks.{number-le}
use Rattle.cut.proofs.Cuts.{Cuts-le}
use Rattle.image.specs.declared.Entry.{Entry}
use Rattle.image.specs.declared.Before.{Before}
use Rattle.image.specs.Entry.{entry_place, payload_place, entries_at, start, after_entry}
use Rattle.image.specs.Block.{Found, steps, block_of}
use Rattle.image.specs.Grammar.{part_of, payload_of, entry_of, entries_of, image_of}
use Rattle.image.specs.Verdict.{taken, prepend, on_block, blocks_of, directory_of, verdict}
use Rattle.image.proofs.Directory.{Clean, fault_none, directory_just, directory_next}
use Rattle.image.proofs.Verdict.{just_fine}
use Rattle.image.proofs.Parts.{block_read}
use Rattle.image.proofs.Sizes.{length-payload_of, part_least, step_le, length_image}
use Rattle.image.proofs.Places.{before_at, after_entry_lem, image_m, image_p, image_entries, image_payload}

module _ (xs : List ℕ) (l : Listed xs) where
  -- ---- one block

  module _ (i e : ℕ) (b : Block) (h : i < b.upto) (k : b.upto ≤ length xs) where
    before : past xs b.upto ≡ (entry_of xs i e b).last + 1
    before = past_suc xs b.upto (λ z. omega arith)

    pub Clean_entry : (p : ℕ) → e + length (part_of xs i b) ≤ p → Clean p (before_at xs i e) (entry_of xs i e b)
    Clean_entry p n =
        record {
          kind = number-le b.kind;
          small = step_le xs l (b.upto - 1);
          last = omega (arith, past-lt xs i b.upto h k l.rising, before);
          upto = h;
          few = omega (arith, l.few);
          end = omega (arith, part_least xs l.rising i b h k);
          within = n;
        }

    pub read_block : block_of (before_at xs i e) (entry_of xs i e b) (part_of xs i b) ≡ steps (part xs i b.upto)
    read_block =
        block_read (before_at xs i e) (entry_of xs i e b) (part xs i b.upto) (rising_part xs i b.upto (omega arith) l.rising)
        (beyond-part xs i b.upto (omega arith) k ∙ before) (step_le xs l (b.upto - 1)) b.kind refl
        (length_part xs i b.upto (omega arith) k)

  -- ---- all of them

  pub read_directory : (p i e n : ℕ) (bs : List Block) → Cuts i (length xs) bs → e + length (payload_of xs i bs) ≡ p
      → directory_of p (before_at xs i e) n (entries_of xs i e bs) ≡ Ok tt
  read_directory p i e n [] c h = directory_just p (before_at xs i e) n (omega arith)
  read_directory p i e n (b ∷ bs) c h =
      let k : b.upto ≤ length xs = Cuts-le b.upto (length xs) bs c.1 in
      let end : ℕ = e + length (part_of xs i b) in
      directory_next p (before_at xs i e) n (entry_of xs i e b) (entries_of xs b.upto end bs)
      (fault_none p (before_at xs i e) (entry_of xs i e b) (Clean_entry i e b c.0 k p (omega (arith, length-payload_of xs i b bs))))
      ∙ ap (λ (x : Before). directory_of p x (n + 1) (entries_of xs b.upto end bs)) (after_entry_lem xs i e b c.0)
      ∙ read_directory p b.upto end (n + 1) bs c.1 (omega (arith, length-payload_of xs i b bs))

  pub read_blocks : (pay : List ℕ) (i e n : ℕ) (bs : List Block) → Cuts i (length xs) bs → drop e pay ≡ payload_of xs i bs
      → blocks_of pay (before_at xs i e) n (entries_of xs i e bs) ≡ taken (drop i xs)
  read_blocks pay i e n [] c h = ap (λ (r : List ℕ). taken r) (sym (drop_of_length-le xs {i = i} (omega arith)))
  read_blocks pay i e n (b ∷ bs) c h =
      let k : b.upto ≤ length xs = Cuts-le b.upto (length xs) bs c.1 in
      let end : ℕ = e + length (part_of xs i b) in
      let es : List Entry = entries_of xs b.upto end bs in
      let first : block_of (before_at xs i e) (entry_of xs i e b) (part pay e end) ≡ steps (part xs i b.upto) =
      ap (block_of (before_at xs i e) (entry_of xs i e b)) (part_run pay e (part_of xs i b) (payload_of xs b.upto bs) h)
      ∙ read_block i e b c.0 k
      in
      ap (λ (f : Found). on_block f n (blocks_of pay (after_entry (entry_of xs i e b)) (suc n) es)) first
      ∙ ap (λ (x : Before). prepend (part xs i b.upto) (blocks_of pay x (suc n) es)) (after_entry_lem xs i e b c.0)
      ∙ ap (prepend (part xs i b.upto))
      (read_blocks pay b.upto end (suc n) bs c.1 (drop_run pay e (part_of xs i b) (payload_of xs b.upto bs) h))
      ∙ ap (λ (r : List ℕ). taken r) (part-drop xs i b.upto (omega (arith, c.0)))

  -- THE IMAGE OF A CUT IS TAKEN, with the steps of the list
  pub read_image : (cut : List Block) → Cuts 0 (length xs) cut → verdict (image_of xs cut) ≡ taken xs
  read_image cut c =
      let s : List ℕ = image_of xs cut in
      let m : ℕ = length cut in
      let p : ℕ = length (payload_of xs 0 cut) in
      let es : List Entry = entries_of xs 0 0 cut in
      let here : entries_at m s (entry_place 0) ≡ es = image_entries xs cut l c in
      just_fine s m (sym (image_m xs cut l c)) p (sym (image_p xs cut l c)) (omega (arith, length_image xs cut))
      (ap (directory_of p start 0) here ∙ read_directory p 0 0 0 cut c (omega arith))
      ∙ ap (blocks_of (drop (payload_place m) s) start 0) here
      ∙ ap (λ (pay : List ℕ). blocks_of pay start 0 es) (image_payload xs cut)
      ∙ read_blocks (payload_of xs 0 cut) 0 0 0 cut c refl
