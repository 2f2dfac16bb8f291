-- `pair_lay::lay_fours` meets its contract: each turn lays the walk's step and the next three, and moves past four codes. Assumes nothing.
use Prim.Native.Nat.{◌+◌, ◌-◌}
use Rattle.image_walk.specs.Turns.{coded_walk}
use Rattle.pair_lay.specs.Inside.Runs.{Ran}
use Rattle.pair_lay.proofs.lay_fours.Given as goal

abbrev pub invariant-loop-at : goal.invariant-loop-at
invariant-loop-at l =
    Ran l.payload l.w l.from l.initial.words l.words (coded_walk (l.from + l.place) l.at l.w.end l.w.block)

abbrev pub decreases-loop-at : goal.decreases-loop-at
decreases-loop-at l = l.upto - l.at
