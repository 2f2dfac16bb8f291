-- `pair_feed::refill` meets its contract: past the last step all numbers say so; else each turn stores some steps. Assumes nothing.
use mathlib.Core.Path.{◌≡◌, sym, ◌∙◌}
use mathlib.Core.List.{List}
use Prim.Native.Nat.{ℕ, ◌<◌}
use native.Mathlib.Omega.{arith}
use lib.ListN.{length}
use Rattle.image_walk.specs.Walk.{ahead}
use Rattle.pair_feed.specs.declared.Feed.{Feed}
use Rattle.pair_feed.specs.Feed.{Fed}
use Rattle.pair_feed.specs.Inside.Growth.{Grown}
use Rattle.pair_feed.proofs.Growing.{Grown_more}
use Rattle.pair_feed.proofs.Filling.{Fed-Grown, Fed_none}
use Rattle.pair_feed.proofs.refill.Goals as goal
use Rattle.pair_feed.proofs.refill.Goals.{After-loop-f, After-slice_known-then-none-w-1, Then-none-f}

-- the buffer has as many places as before
sized : (c : After-slice_known-then-none-w-1) → length c.fill_with_none.new.steps ≡ length c.args.steps.now
sized c = omega arith

-- what has grown from the first turn on shows the steps from the walk on
ends-Then-none-f : (c : Then-none-f) → {g : Feed} {after : List ℕ}
    → Grown c.args.source.image.now c.args.source.payload.now c.on-f.result c.on-f.new.steps g after
    → Fed c.args.source.image.now c.args.source.payload.now g after (ahead c.args.source.image.now c.args.source.payload.now c.args.w) × (g.at < g.end)
ends-Then-none-f c k =
    (Fed-Grown c.requires.stands (Grown_more c.on-f.ensures.0 k), omega (arith, k.from, k.longer, c.on-f.ensures.0.from, c.on-f.ensures.1))

-- what has grown from the first turn on shows the steps from the walk on
ends-After-loop-f : (c : After-loop-f) → {g : Feed} {after : List ℕ}
    → Grown c.args.source.image.now c.args.source.payload.now c.on-f.result c.on-f.new.steps g after
    → Fed c.args.source.image.now c.args.source.payload.now g after (ahead c.args.source.image.now c.args.source.payload.now c.args.w) × (g.at < g.end)
ends-After-loop-f c k =
    (Fed-Grown c.requires.stands (Grown_more c.on-f.ensures.0 k), omega (arith, k.from, k.longer, c.on-f.ensures.0.from, c.on-f.ensures.1))

pub returns-then-none-w : goal.returns-then-none-w
returns-then-none-w c = (Fed_none c.requires.stands c.fill_with_none.new.steps (length c.args.steps.now) (sym (sized c)) (omega (arith, c.if-none-w.true, c.no_step-none.ensures)) c.fill_with_none.ensures, c.requires.steps_nonzero.0)

pub returns-then-none-f : goal.returns-then-none-f
returns-then-none-f c = ends-Then-none-f c c.loop-f.invariant

pub returns : goal.returns
returns c = ends-After-loop-f c c.loop-f.invariant
