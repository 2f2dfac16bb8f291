-- `plan::values` meets its contract. The loop's invariant: the numbers ahead of the ranks from `i` on stand in the work area, what the rank before
-- needs of them is known, and the sizes of the other codes still stand.
-- Assumes nothing.
use Prim.Native.Nat.{◌<◌}
use Rattle.plan.proofs.Passes.{Valuing}
use Rattle.plan.proofs.values.Given as goal

abbrev pub invariant-loop-i : goal.invariant-loop-i
invariant-loop-i l = (0 < l.i) × Valuing l.list l.initial.work l.work l.i l.turn
