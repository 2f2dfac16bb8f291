-- `plan::sizes` meets its contract. The loop's invariant: the codes of the ranks below `i` are sized.
-- Assumes nothing.
use Rattle.plan.proofs.Passes.{Sizing}
use Rattle.plan.proofs.sizes.Given as goal

abbrev pub invariant-loop-i : goal.invariant-loop-i
invariant-loop-i l = Sizing l.list l.fn.work l.work l.i
