-- Laws of the steps of a block that passed its checks: how many there are, their order and end, where a bound falls, and what they are by
-- the block's kind.
-- Assumes nothing.
use mathlib.Core.Path.{◌≡◌, sym, ap, ◌∙◌, subst}
use mathlib.Core.List.{List}
use Prim.Native.Nat.{ℕ, ◌+◌, ◌-◌, ◌*◌, ◌^◌, ◌≤◌, ◌<◌}
use native.Mathlib.Omega.{arith}
use native.Mathlib.Decide.{ℕ_discrete}
use lib.ListN.{length, get_or}
use Rattle.lists.specs.Rising.{Rising, beyond}
use Rattle.lists.specs.Parts.{part}
use Rattle.lists.specs.Below.{below}
use Rattle.lists.proofs.Choice.{by_lt}
use Rattle.lists.proofs.Parts.{length_part}
use Rattle.lists.proofs.Rising.{Rising-get_or_below}
use Rattle.lists.proofs.Below.{below_none, below-lt}
use Rattle.rules.specs.Limits.Laws.{largest_coded}
use Rattle.codes.specs.Codes.{all, steps_from, list_of}
use Rattle.codes.specs.Codes as codes
use Rattle.codes.proofs.Codes.{Rising_steps}
use Rattle.row.specs.Row.{byte_bits, row_steps, row_size}
use Rattle.row.proofs.Row.{Rising_row}
use Rattle.image.specs.declared.Entry.{Entry}
use Rattle.image.specs.declared.Before.{Before}
use Rattle.image.specs.Block.{steps}
use Rattle.image.proofs.Directory.{Clean}
use Rattle.image.proofs.Found.{part_codes, part_row, codes_found, row_found}
use Rattle.image.proofs.Blocks.{Good, block_good}
use Rattle.image.specs.Taken.{steps_found}
use Rattle.image_block.specs.Block.{steps_in, Fitting, Sound, FirstIn}

-- ---- a block whose entry has no fault

pub fitting : {p : ℕ} {b : Before} {e : Entry} {part : List ℕ} → Clean p b e → length part < 2 ^ 32 → Fitting b e part
fitting c h = record { next = c.last; last = c.small; upto = omega (arith, c.upto); size = h }

-- its part is one of the payload
pub part_size : (pay : List ℕ) {b : Before} {e : Entry} → Clean (length pay) b e → length pay < 2 ^ 32 → length (part pay b.end e.end) < 2 ^ 32
part_size pay {b} {e} c h = omega (arith, c, length_part pay b.end e.end (omega (arith, c.end)) c.within)

-- ---- and that stands for its steps

module _ {b : Before} {e : Entry} {part : List ℕ} (g : Good b e part) where
  pub steps_good : steps_in b e part ≡ g.list
  steps_good = ap steps_found g.is

  pub Sound_good : {p : ℕ} → Clean p b e → length part < 2 ^ 32 → Sound b e part
  Sound_good c h =
      record { fits = fitting c h; good = g.is ∙ ap (λ (l : List ℕ). steps l) (sym steps_good) }

module _ {b : Before} {e : Entry} {part : List ℕ} (s : Sound b e part) where
  good : Good b e part
  good = block_good b e part (steps_in b e part) s.good

  -- ---- of codes

  module _ (z : e.kind ≡ 0) where
    codes_list : steps_from b.next part 0 ≡ all good.list
    codes_list = codes_found (steps_from b.next part 0) (sym (part_codes b e part z) ∙ good.found)

    pub steps_codes : steps_in b e part ≡ list_of (steps_from b.next part 0)
    steps_codes = steps_good good ∙ ap list_of (sym codes_list)

    pub Sound_codes : codes.Sound b.next (steps_from b.next part 0)
    Sound_codes =
        let l : list_of (steps_from b.next part 0) ≡ good.list = ap list_of codes_list in
        record {
          whole = codes_list ∙ ap (λ (r : List ℕ). all r) (sym l);
          small = omega (arith, ap (beyond b.next) l, good.last, s.fits.last, largest_coded);
        }

  -- ---- a row

  module _ (z : e.kind ≡ 0 → ⊥) where
    row_list : (length part ≡ row_size (e.last + 1 - b.next)) × (row_steps b.next part ≡ good.list)
    row_list = row_found b.next (e.last + 1) part (sym (part_row b e part z) ∙ good.found)

    pub steps_row : steps_in b e part ≡ row_steps b.next part
    steps_row = steps_good good ∙ sym row_list.1

    -- it goes as far as the last step, and not much farther
    pub row_reach : e.last < b.next + byte_bits * length part
    row_reach = omega (arith, row_list.0, s.fits.next)

    -- it ends within the byte of its last step
    pub row_ends : b.next + byte_bits * length part ≤ e.last + byte_bits
    row_ends = omega (arith, row_list.0, s.fits.next)

    pub row_short : b.next + byte_bits * length part ≤ 2 ^ 40
    row_short = omega (arith, row_list.0, s.fits.next, s.fits.last, largest_coded)

  -- ---- of either kind

  pub length_steps : length (steps_in b e part) ≡ e.upto - b.upto
  length_steps = ap length (steps_good good) ∙ good.count

  pub beyond_steps : beyond b.next (steps_in b e part) ≡ e.last + 1
  beyond_steps = ap (beyond b.next) (steps_good good) ∙ good.last

  pub Rising-steps_in : Rising b.next (steps_in b e part)
  Rising-steps_in =
      elim (ℕ_discrete e.kind 0) [
        | yes z ↦ subst (Rising b.next) (sym (steps_codes z)) (Rising_steps b.next part 0)
        | no z ↦ subst (Rising b.next) (sym (steps_row z)) (Rising_row b.next part)
      ]

  step_le : (k : ℕ) → k < e.upto - b.upto → get_or (steps_in b e part) k 0 ≤ e.last
  step_le k h =
      omega (arith, Rising-get_or_below b.next (steps_in b e part) k Rising-steps_in (omega (arith, length_steps)), beyond_steps)

  -- a bound that no step is below
  pub below_first : (x : ℕ) → x ≤ b.next → below (steps_in b e part) x ≡ 0
  below_first x h = below_none b.next (steps_in b e part) x Rising-steps_in h

  -- and one that the last step reaches
  pub below_within : (x : ℕ) → x ≤ e.last → below (steps_in b e part) x < e.upto - b.upto
  below_within x h =
      by_lt x b.next (λ g. omega (arith, below_first x (omega arith), some b.next (omega arith) s.fits.next))
      (λ g. some x g h)
    where
      some : (y : ℕ) → b.next ≤ y → y ≤ e.last → below (steps_in b e part) y < e.upto - b.upto
      some y g k = omega (arith, below-lt b.next (steps_in b e part) y g (omega (arith, beyond_steps)), length_steps)

  -- ---- the answers, from the list ys that the steps are by the block's kind

  module _ {ys : List ℕ} (are : steps_in b e part ≡ ys) where
    pub within_list : {k : ℕ} → k < e.upto - b.upto → k < length ys
    within_list h = omega (arith, length_steps, ap length are)

    pub below_list : {x : ℕ} → x ≤ e.last → below ys x < length ys
    below_list {x} h = omega (arith, length_steps, ap length are, below_within x h, ap (λ (l : List ℕ). below l x) are)

    pub step_is : {k r : ℕ} → k < e.upto - b.upto → r ≡ get_or ys k 0 → (r ≡ get_or (steps_in b e part) k 0) × (r ≤ e.last)
    step_is {k} {r} h q =
        let p : r ≡ get_or (steps_in b e part) k 0 = q ∙ ap (λ (l : List ℕ). get_or l k 0) (sym are) in
        (p, omega (arith, step_le k h))

    pub below_is : {x r : ℕ} → x ≤ e.last → r ≡ below ys x → (r ≡ below (steps_in b e part) x) × (r < e.upto - b.upto)
    below_is {x} {r} h q =
        let p : r ≡ below (steps_in b e part) x = q ∙ ap (λ (l : List ℕ). below l x) (sym are) in
        (p, omega (arith, below_within x h))

    pub first_is : {x step index : ℕ} → x ≤ e.last → index ≡ below ys x → step ≡ get_or ys index 0 → FirstIn b e part x step index
    first_is h p q =
        let w = below_is h p in
        let v = step_is w.1 q in
        record { which = w.0; is = v.0; within = w.1; small = v.1 }
