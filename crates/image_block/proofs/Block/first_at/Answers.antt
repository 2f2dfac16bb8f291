-- `image_block::Block::first_at` meets its contract, by the kind of the block and where the bound falls. Assumes nothing.
use mathlib.Core.Path.{sym, ap, ◌∙◌}
use mathlib.Core.List.{List}
use Prim.Native.Nat.{ℕ}
use native.Mathlib.Omega.{arith}
use lib.ListN.{get_or}
use Rattle.lists.specs.Below.{below}
use Rattle.rules.specs.Limits.Laws.{largest_coded}
use Rattle.row.specs.Row.{row_steps}
use Rattle.image_block.proofs.Steps.{steps_codes, Sound_codes, steps_row, row_reach, row_short, below_first, below_within, within_list, below_list, first_is}
use Rattle.image_block.proofs.Block.first_at.Goals as goal

pub first_in-requires : goal.first_in-requires
first_in-requires c = Sound_codes c.requires.0 c.if-self-eq-CODES.true

pub returns-then-self-eq-CODES : goal.returns-then-self-eq-CODES
returns-then-self-eq-CODES c = first_is c.requires.0 (steps_codes c.requires.0 c.if-self-eq-CODES.true) c.requires.1 c.first_in.ensures.0 c.first_in.ensures.1

pub step_at-requires : goal.step_at-requires
step_at-requires c = let some = below_within c.requires.0 c.args.x c.requires.1 in
    (omega (arith, c.requires.0.fits, largest_coded), (c.requires.0.fits.size, within_list c.requires.0 (steps_row c.requires.0 c.if-self-eq-CODES.false) (omega arith)))

pub returns-then-x-from : goal.returns-then-x-from
returns-then-x-from c = let are = steps_row c.requires.0 c.if-self-eq-CODES.false in
    first_is c.requires.0 are c.requires.1 (sym (below_first c.requires.0 c.args.x c.if-x-from.true) ∙ ap (λ (l : List ℕ). below l c.args.x) are) c.step_at.ensures

pub first_at-requires : goal.first_at-requires
first_at-requires c = let are = steps_row c.requires.0 c.if-self-eq-CODES.false in
    (omega arith, (omega (arith, c.requires.0.fits, largest_coded), (c.requires.0.fits.size, below_list c.requires.0 are c.requires.1)))

pub below_in-requires : goal.below_in-requires
below_in-requires c = (omega arith, (omega (arith, c.requires.1, row_reach c.requires.0 c.if-self-eq-CODES.false), row_short c.requires.0 c.if-self-eq-CODES.false))

pub returns : goal.returns
returns c = let are = steps_row c.requires.0 c.if-self-eq-CODES.false in
    first_is c.requires.0 are c.requires.1 c.below_in.ensures (c.first_at.ensures ∙ ap (λ (k : ℕ). get_or (row_steps c.args.self.now.before.next c.args.self.now.part.now) k 0) (sym c.below_in.ensures))
