-- `plan::marks` meets its contract. The loop's invariant: the blocks that end at rank `i` are marked, and the numbers ahead still stand from
-- there on.
-- Assumes nothing.
use Prim.Native.Nat.{◌-◌}
use lib.ListN.{length}
use Rattle.plan.proofs.Marking.{Marking}
use Rattle.plan.proofs.marks.Given as goal

abbrev pub invariant-loop-i : goal.invariant-loop-i
invariant-loop-i l = Marking l.list l.initial.work l.work l.blocks l.i

abbrev pub decreases-loop-i : goal.decreases-loop-i
decreases-loop-i l = length l.list - l.i
