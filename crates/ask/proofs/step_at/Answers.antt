-- `ask::step_at` meets its contract: the block that the directory names for the rank is sound and has the step. Assumes nothing.
use native.Mathlib.Omega.{arith}
use Rattle.rules.specs.Limits.Laws.{largest_coded}
use Rattle.image_directory.proofs.Whole.{slice_Bytes}
use Rattle.ask.proofs.Holding.{RankIn, rank_in_lem, rank_out, held_sound, rank_step}
use Rattle.ask.proofs.step_at.Goals as goal
use Rattle.ask.proofs.step_at.Goals.{In-Some}

-- a block was found
found : (c : In-Some) → RankIn c.args.image.now c.args.k c.in-Some.block.before c.in-Some.block.entry
found c = rank_in_lem c.args.image.now (slice_Bytes _ c.type_inv.image) c.requires.0 c.args.k c.in-Some.ensures.0

pub overflow_sub-k : goal.overflow_sub-k
overflow_sub-k c = (found (goal.at.overflow_sub-k c).In-Some).from

pub step_at-requires : goal.step_at-requires
step_at-requires c = let l = found (goal.at.step_at-requires c).In-Some in
    (held_sound c.in-Some.ensures.1 l.holds, omega (arith, l.from, l.upto))

pub returns-in-Some : goal.returns-in-Some
returns-in-Some c = let l = found (goal.at.returns-in-Some c).In-Some in
    (rank_step c.in-Some.ensures.1 l c.step_at.ensures.0, omega (arith, c.step_at.ensures.1, l.holds.sound.fits.last, largest_coded))

pub returns-in-None : goal.returns-in-None
returns-in-None c = absurd (omega (arith, rank_out c.args.image.now (slice_Bytes _ c.type_inv.image) c.requires.0 c.args.k c.in-None.ensures, c.requires.1))
