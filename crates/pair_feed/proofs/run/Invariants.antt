-- `pair_feed::run` meets its contract: each turn stores two steps and moves past two short codes. Assumes nothing.
use Prim.Native.Nat.{◌-◌}
use Rattle.pair_feed.specs.Inside.Growth.{Grown, among_codes}
use Rattle.pair_feed.proofs.run.Given as goal

abbrev pub invariant-loop-k : goal.invariant-loop-k
invariant-loop-k l = Grown l.source.image.now l.source.payload.now l.f l.initial.steps (among_codes l.f l.step l.at l.k) l.steps

abbrev pub decreases-loop-k : goal.decreases-loop-k
decreases-loop-k l = l.most - l.k
