-- `plan::marks` meets its contract. The loop's invariant: the blocks that end at rank `i` are marked, and the numbers ahead still stand from
-- there on.
-- Assumes nothing.
use Rattle.plan.proofs.Marking.{Marking_end}
use Rattle.plan.proofs.marks.Goals as goal

pub returns : goal.returns
returns c = Marking_end c.loop-i.invariant c.loop-i-test.false
