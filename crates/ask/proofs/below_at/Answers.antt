-- `ask::below_at` meets its contract: the block that the directory names for the bound is sound and has the first step at or after it.
-- Assumes nothing.
use mathlib.Core.Path.{sym, ◌∙◌}
use Rattle.image_directory.proofs.Whole.{slice_Bytes}
use Rattle.ask.proofs.Holding.{BoundIn, bound_in, bound_out, held_sound, bound_rank}
use Rattle.ask.proofs.below_at.Goals as goal
use Rattle.ask.proofs.below_at.Goals.{In-Some}

-- a block was found
found : (c : In-Some) → BoundIn c.args.image.now c.args.x c.in-Some.block.before c.in-Some.block.entry
found c = bound_in c.args.image.now (slice_Bytes _ c.type_inv.image) c.requires.0 c.args.x c.in-Some.ensures.0

pub below-requires : goal.below-requires
below-requires c = let l = found (goal.at.below-requires c).In-Some in
    (held_sound c.in-Some.ensures.1 l.holds, l.reach)

pub returns-in-Some : goal.returns-in-Some
returns-in-Some c = bound_rank c.in-Some.ensures.1 (found (goal.at.returns-in-Some c).In-Some) c.below.ensures.0

pub returns-in-None : goal.returns-in-None
returns-in-None c = sym (bound_out c.args.image.now (slice_Bytes _ c.type_inv.image) c.requires.0 c.args.x c.in-None.ensures ∙ c.requires.1)
