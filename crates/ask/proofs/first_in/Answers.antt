-- `ask::first_in` meets its contract: the block that the directory names for the bound is sound and has the first step at or after it, and
-- the ranks of its steps begin at the upto before it. Assumes nothing.
use native.Mathlib.Omega.{arith}
use Rattle.rules.specs.Limits.Laws.{largest_coded, most_counted}
use Rattle.image.specs.Taken.{steps_of}
use Rattle.image_directory.proofs.Whole.{slice_Bytes}
use Rattle.ask.proofs.Holding.{BoundIn, bound_in, bound_out, held_sound, held_step, bound_rank}
use Rattle.ask.proofs.Answers.{first_found, first-nothing}
use Rattle.ask.proofs.first_in.Goals as goal
use Rattle.ask.proofs.first_in.Goals.{In-Some}

-- a block was found
found : (c : In-Some) → BoundIn c.args.image.now c.args.x c.in-Some.block.before c.in-Some.block.entry
found c = bound_in c.args.image.now (slice_Bytes _ c.type_inv.image) c.requires c.args.x c.in-Some.ensures.0

pub first_at-f-requires : goal.first_at-f-requires
first_at-f-requires c = let l = found (goal.at.first_at-f-requires c).In-Some in
    (held_sound c.in-Some.ensures.1 l.holds, l.reach)

pub overflow_cast-step : goal.overflow_cast-step
overflow_cast-step c = omega (arith, c.first_at-f.ensures.small, (found (goal.at.overflow_cast-step c).In-Some).holds.sound.fits.last, largest_coded)

pub overflow_cast-rank : goal.overflow_cast-rank
overflow_cast-rank c = let h = (found (goal.at.overflow_cast-rank c).In-Some).holds in
    omega (arith, c.first_at-f.ensures.within, h.order, h.few, most_counted)

pub returns-in-Some : goal.returns-in-Some
returns-in-Some c = let l = found (goal.at.returns-in-Some c).In-Some in
    first_found _ _ (bound_rank c.in-Some.ensures.1 l c.first_at-f.ensures.which) (omega (arith, c.first_at-f.ensures.within, l.holds.order, l.holds.within)) (held_step c.in-Some.ensures.1 l.holds c.first_at-f.ensures.within c.first_at-f.ensures.is)

pub returns-in-None : goal.returns-in-None
returns-in-None c = first-nothing (steps_of c.args.image.now) c.args.x (bound_out c.args.image.now (slice_Bytes _ c.type_inv.image) c.requires c.args.x c.in-None.ensures)
