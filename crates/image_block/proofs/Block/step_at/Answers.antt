-- `image_block::Block::step_at` meets its contract, by the kind of the block. Assumes nothing.
use native.Mathlib.Omega.{arith}
use Rattle.rules.specs.Limits.Laws.{largest_coded}
use Rattle.image_block.proofs.Steps.{steps_codes, Sound_codes, steps_row, within_list, step_is}
use Rattle.image_block.proofs.Block.step_at.Goals as goal

pub step_at-requires : goal.step_at-requires
step_at-requires c = (Sound_codes c.requires.0 c.if-self-eq-CODES.true, within_list c.requires.0 (steps_codes c.requires.0 c.if-self-eq-CODES.true) c.requires.1)

pub returns-then-self-eq-CODES : goal.returns-then-self-eq-CODES
returns-then-self-eq-CODES c = step_is c.requires.0 (steps_codes c.requires.0 c.if-self-eq-CODES.true) c.requires.1 c.step_at.ensures

pub step_at-requires-2 : goal.step_at-requires-2
step_at-requires-2 c = (omega (arith, c.requires.0.fits, largest_coded), (c.requires.0.fits.size, within_list c.requires.0 (steps_row c.requires.0 c.if-self-eq-CODES.false) c.requires.1))

pub returns : goal.returns
returns c = step_is c.requires.0 (steps_row c.requires.0 c.if-self-eq-CODES.false) c.requires.1 c.step_at-2.ensures
