-- `image_block::Block::below` meets its contract, by where the bound falls and the kind of the block. Assumes nothing.
use mathlib.Core.Path.{refl, sym}
use native.Mathlib.Omega.{arith}
use Rattle.image_block.proofs.Steps.{steps_codes, Sound_codes, steps_row, row_reach, row_short, below_first, below_is}
use Rattle.image_block.proofs.Block.below.Goals as goal

pub returns-then-x-from : goal.returns-then-x-from
returns-then-x-from c = below_is c.requires.0 refl c.requires.1 (sym (below_first c.requires.0 c.args.x c.if-x-from.true))

pub below_in-requires : goal.below_in-requires
below_in-requires c = Sound_codes c.requires.0 c.if-self-eq-CODES.true

pub returns-then-self-eq-CODES : goal.returns-then-self-eq-CODES
returns-then-self-eq-CODES c = below_is c.requires.0 (steps_codes c.requires.0 c.if-self-eq-CODES.true) c.requires.1 c.below_in.ensures

pub below_in-requires-2 : goal.below_in-requires-2
below_in-requires-2 c = (omega arith, (omega (arith, c.requires.1, row_reach c.requires.0 c.if-self-eq-CODES.false), row_short c.requires.0 c.if-self-eq-CODES.false))

pub returns : goal.returns
returns c = below_is c.requires.0 (steps_row c.requires.0 c.if-self-eq-CODES.false) c.requires.1 c.below_in-2.ensures
