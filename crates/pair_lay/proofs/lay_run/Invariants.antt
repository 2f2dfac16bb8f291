-- `pair_lay::lay_run` meets its contract: after the fours, each turn lays the walk's step and moves to the next. Assumes nothing.
use mathlib.Core.List.{List}
use Prim.Native.Nat.{ℕ, ◌-◌}
use Rattle.image_walk.specs.Turns.{coded_walk}
use Rattle.pair_lay.specs.Inside.Runs.{Ran}
use Rattle.pair_lay.proofs.lay_run.Given as goal

-- what the fours laid over any window, and these turns after them
abbrev pub invariant-loop-step : goal.invariant-loop-step
invariant-loop-step l =
    (first : List ℕ) → Ran l.payload l.w l.from first l.initial.words (coded_walk l.initial.step l.initial.at l.w.end l.w.block)
    → Ran l.payload l.w l.from first l.words (coded_walk l.step l.at l.w.end l.w.block)

abbrev pub decreases-loop-step : goal.decreases-loop-step
decreases-loop-step l = l.bound - l.step
