-- `row::first_at` meets its contract: the step is one of the row from the bound's byte on, after the ones of that byte before the bound.
-- Assumes nothing.
use mathlib.Core.Path.{sym, ◌∙◌}
use native.Mathlib.Omega.{arith}
use Prim.Native.Nat.{◌-◌, ◌/◌}
use lib.ListN.{length, drop, length-take}
use Rattle.row.specs.Row.{byte_bits}
use Rattle.row.proofs.Places.{bound_within}
use Rattle.row.proofs.Seeking.{Seeking_bound, Seeking_part}
use Rattle.row.proofs.first_at.Goals as goal

pub ones_under-requires : goal.ones_under-requires
ones_under-requires c = omega (arith, bound_within c.args.from c.args.part.now c.args.x c.requires.0 c.requires.1.1.1)

pub slice_bounds-step_from-start : goal.slice_bounds-step_from-start
slice_bounds-step_from-start c = omega (arith, bound_within c.args.from c.args.part.now c.args.x c.requires.0 c.requires.1.1.1)

pub slice_bounds-step_from-count : goal.slice_bounds-step_from-count
slice_bounds-step_from-count c = omega (arith, bound_within c.args.from c.args.part.now c.args.x c.requires.0 c.requires.1.1.1)

pub step_from-requires : goal.step_from-requires
step_from-requires c = let b = bound_within c.args.from c.args.part.now c.args.x c.requires.0 c.requires.1.1.1 in
    (omega (arith, b), (omega (arith, length-take (length c.args.part.now - (c.args.x - c.args.from) / byte_bits) (drop ((c.args.x - c.args.from) / byte_bits) c.args.part.now)), (Seeking_part c.args.from c.args.part.now _ _ (Seeking_bound c.args.from c.args.part.now c.args.x _ c.requires.0 c.requires.1.1.1 c.ones_under.ensures.0) (omega (arith, bound_within c.args.from c.args.part.now c.args.x c.requires.0 c.requires.1.1.1))).within))

pub returns : goal.returns
returns c = c.step_from.ensures ∙ sym (Seeking_part c.args.from c.args.part.now _ _ (Seeking_bound c.args.from c.args.part.now c.args.x _ c.requires.0 c.requires.1.1.1 c.ones_under.ensures.0) (omega (arith, bound_within c.args.from c.args.part.now c.args.x c.requires.0 c.requires.1.1.1))).is
