-- `row_read::steps_exact` meets its contract: the steps of the words from index i on are still to be stored. Assumes nothing.
use Rattle.row_read.proofs.Putting.{Putting}
use Rattle.row_read.proofs.steps_exact.Given as goal

abbrev pub invariant-loop-i : goal.invariant-loop-i
invariant-loop-i l = Putting l.part l.from l.initial.out l.at l.out l.i l.k
