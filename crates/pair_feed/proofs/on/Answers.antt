-- `pair_feed::on` meets its contract: the walk's step is stored, and a run of codes follows, if any. Assumes nothing.
use mathlib.Core.Path.{◌∙◌}
use Prim.Native.Nat.{◌+◌}
use native.Mathlib.Omega.{arith}
use lib.ListN.{set}
use Rattle.rules.specs.Limits.Laws.{largest_coded}
use Rattle.pair_feed.specs.Inside.Growth.{Grown}
use Rattle.pair_feed.proofs.Growing.{Grown_start, Grown_one, Grown_more}
use Rattle.pair_feed.proofs.on.Goals as goal
use Rattle.pair_feed.proofs.on.Goals.{After-slice_known-2-1, Then-w, Then-w-ne0}

-- the walk's step is stored, and the walk is past it
stored-Then-w-ne0 : (c : Then-w-ne0) → Grown c.args.source.image.now c.args.source.payload.now c.args.f c.args.steps.now (record { walk = c.past-w.result; at = c.args.f.at; end = c.args.f.end + 1 })
    (set c.args.steps.now c.args.f.end c.args.f.walk.step)
stored-Then-w-ne0 c =
    Grown_one (Grown_start c.requires.stands.0 (omega (arith, c.requires.end_in_bounds.0))) c.requires.end_in_bounds.0 c.past-w.result c.past-w.ensures.0 c.past-w.ensures.1

-- the walk's step is stored, and the walk is past it
stored-Then-w : (c : Then-w) → Grown c.args.source.image.now c.args.source.payload.now c.args.f c.args.steps.now (record { walk = c.past-w.result; at = c.args.f.at; end = c.args.f.end + 1 })
    (set c.args.steps.now c.args.f.end c.args.f.walk.step)
stored-Then-w c =
    Grown_one (Grown_start c.requires.stands.0 (omega (arith, c.requires.end_in_bounds.0))) c.requires.end_in_bounds.0 c.past-w.result c.past-w.ensures.0 c.past-w.ensures.1

-- the walk's step is stored, and the walk is past it
stored-After-slice_known-2-1 : (c : After-slice_known-2-1) → Grown c.args.source.image.now c.args.source.payload.now c.args.f c.args.steps.now (record { walk = c.past-w.result; at = c.args.f.at; end = c.args.f.end + 1 })
    (set c.args.steps.now c.args.f.end c.args.f.walk.step)
stored-After-slice_known-2-1 c =
    Grown_one (Grown_start c.requires.stands.0 (omega (arith, c.requires.end_in_bounds.0))) c.requires.end_in_bounds.0 c.past-w.result c.past-w.ensures.0 c.past-w.ensures.1

pub overflow_cast-steps : goal.overflow_cast-steps
overflow_cast-steps c = omega (arith, c.requires.stands.1, largest_coded)

pub returns-then-w-ne0 : goal.returns-then-w-ne0
returns-then-w-ne0 c = (stored-Then-w-ne0 c, omega arith)

pub returns-then-w : goal.returns-then-w
returns-then-w c = (stored-Then-w c, omega arith)

pub returns : goal.returns
returns c = (Grown_more (stored-After-slice_known-2-1 c) c.run.ensures, omega (arith, c.run.ensures.longer))
