-- The number of a block's refusal, by its kind: what `check` finds in a block and the two tests that follow make up the block's number.
-- Assumes nothing.
use mathlib.Core.Path.{◌≡◌, refl, sym, ap, ◌∙◌}
use mathlib.Core.Bool.{Bool, true, false}
use mathlib.Core.List.{List}
use Prim.Native.Nat.{ℕ, ◌+◌, ◌-◌, ◌≤◌, ◌<◌}
use native.Mathlib.Omega.{arith}
use lib.Dec.{eqb}
use lib.ListN.{length}
use Rattle.lists.specs.Choice.{pick}
use Rattle.lists.specs.Rising.{beyond}
use Rattle.rules.specs.Refusals.{bad_code, wrong_count, wrong_last, bad_row}
use Rattle.std.specs.Prelude.{Ok, Err}
use Rattle.codes.specs.declared.Tally.{Tally}
use Rattle.codes.specs.declared.Wrong.{Wrong}
use Rattle.codes.specs.Codes.{Values, all, bad, steps_from, tally, tally_of}
use Rattle.row.specs.Row.{row_steps, row_size}
use Rattle.row.proofs.Row.{length_row_moved, beyond_row_moved}
use Rattle.image.specs.declared.Entry.{Entry}
use Rattle.image.specs.declared.Before.{Before}
use Rattle.image.specs.Block.{Found, steps, wrong, in_codes, in_row, judged, block_of}
use Rattle.image.proofs.Found.{row_unsized, row_past, row_within, judged-wrong}
use Rattle.image.proofs.Blocks.{block_codes, block_row}
use Rattle.image_block.specs.Block.{number_of}
use Rattle.image_block.specs.Inside.Judged.{judged_number}

module _ (b : Before) (e : Entry) where
  number_judged : (xs : List ℕ) → number_of (judged b e (steps xs)) ≡ judged_number b e (length xs) (beyond b.next xs)
  unfolding judged
  number_judged xs = by (eqb (length xs) (e.upto - b.upto)) (eqb (beyond b.next xs) (e.last + 1))
    where
      by : (x y : Bool) → number_of (pick x (pick y (steps xs) (wrong wrong_last)) (wrong wrong_count)) ≡ pick x (pick y 0 wrong_last) wrong_count
      by true true = refl
      by true false = refl
      by false y = refl

  number_wrong : (n : ℕ) → number_of (judged b e (wrong n)) ≡ n
  number_wrong n = ap number_of (judged-wrong b e n)

  module _ (part : List ℕ) where
    -- ---- codes

    module _ (h : e.kind ≡ 0) where
      pub number_codes : {count next : ℕ} → tally_of 0 b.next (steps_from b.next part 0) ≡ Ok (tally count next)
          → number_of (block_of b e part) ≡ judged_number b e count next
      number_codes {count} {next} t = ap number_of (block_codes b e part h) ∙ by (steps_from b.next part 0) t
        where
          by : (v : Values) → tally_of 0 b.next v ≡ Ok (tally count next) → number_of (judged b e (in_codes v)) ≡ judged_number b e count next
          by (all xs) q =
              let t : tally (0 + length xs) (beyond b.next xs) ≡ tally count next = cc in
              let p : 0 + length xs ≡ count = ap (λ (t : Tally). t.count) t in
              let r : beyond b.next xs ≡ next = ap (λ (t : Tally). t.next) t in
              let n : length xs ≡ count = omega arith in
              number_judged xs ∙ rw (n, r)
          by (bad w n) q = let z : ◌≡◌ {A = ℕ} 0 1 = cc in absurd (omega arith)

      pub number_bad : {w : Wrong} → tally_of 0 b.next (steps_from b.next part 0) ≡ Err w → number_of (block_of b e part) ≡ bad_code
      number_bad {w} t = ap number_of (block_codes b e part h) ∙ by (steps_from b.next part 0) t
        where
          by : (v : Values) → tally_of 0 b.next v ≡ Err w → number_of (judged b e (in_codes v)) ≡ bad_code
          by (all xs) q = let z : ◌≡◌ {A = ℕ} 0 1 = cc in absurd (omega arith)
          by (bad w n) q = number_wrong bad_code

    -- ---- a row

    module _ (h : e.kind ≡ 0 → ⊥) where
      number_row : {f : Found} → in_row b.next (e.last + 1) part ≡ f → number_of (block_of b e part) ≡ number_of (judged b e f)
      number_row q = ap number_of (block_row b e part h) ∙ ap (λ (f : Found). number_of (judged b e f)) q

      pub number_unsized : (length part ≡ row_size (e.last + 1 - b.next) → ⊥) → number_of (block_of b e part) ≡ bad_row
      number_unsized k = number_row (row_unsized b.next (e.last + 1) part k) ∙ number_wrong bad_row

      module _ (k : length part ≡ row_size (e.last + 1 - b.next)) (end : ℕ) (is : end ≡ beyond 0 (row_steps 0 part)) where
        at_end : beyond b.next (row_steps b.next part) ≡ b.next + end
        at_end = beyond_row_moved b.next part ∙ ap (λ (n : ℕ). b.next + n) (sym is)

        pub number_past : e.last + 1 < b.next + end → number_of (block_of b e part) ≡ bad_row
        number_past l = number_row (row_past b.next (e.last + 1) part k (omega (arith, at_end))) ∙ number_wrong bad_row

        pub number_within : b.next + end ≤ e.last + 1 → (count : ℕ) → count ≡ length (row_steps 0 part)
            → number_of (block_of b e part) ≡ judged_number b e count (b.next + end)
        number_within l count n =
            number_row (row_within b.next (e.last + 1) part k (omega (arith, at_end)))
            ∙ number_judged (row_steps b.next part)
            ∙ ap (λ (x : ℕ). judged_number b e x (beyond b.next (row_steps b.next part))) (length_row_moved b.next part ∙ sym n)
            ∙ ap (judged_number b e count) at_end
