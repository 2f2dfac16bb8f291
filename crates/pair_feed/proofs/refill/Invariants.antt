-- `pair_feed::refill` meets its contract: past the last step all numbers say so; else each turn stores some steps. Assumes nothing.
use Prim.Native.Nat.{◌-◌}
use Rattle.pair_feed.specs.Inside.Growth.{Grown}
use Rattle.pair_feed.proofs.refill.Given as goal

abbrev pub invariant-loop-f : goal.invariant-loop-f
invariant-loop-f l = Grown l.source.image.now l.source.payload.now l.initial.f l.initial.steps l.f l.steps

abbrev pub decreases-loop-f : goal.decreases-loop-f
decreases-loop-f l = l.count - l.f.end
