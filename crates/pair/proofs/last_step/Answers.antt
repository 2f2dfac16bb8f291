-- `pair::last_step` reads within the image: the entries of an accepted image are all there. Assumes nothing.
use native.Mathlib.Omega.{arith}
use Rattle.image_directory.proofs.Whole.{payload_within}
use Rattle.pair.proofs.last_step.Goals as goal

pub number_at-blocks-requires : goal.number_at-blocks-requires
number_at-blocks-requires c = omega (arith, payload_within c.args.image.now c.requires)

pub entry-e-requires : goal.entry-e-requires
entry-e-requires c = omega (arith, payload_within c.args.image.now c.requires, c.number_at-blocks.ensures.0)
