-- `row_read::steps_loose` meets its contract: the steps of the words from index i on are still to be stored, over what is loose. Assumes nothing.
use Rattle.row_read.proofs.Putting.{Running}
use Rattle.row_read.proofs.steps_loose.Given as goal

abbrev pub invariant-loop-i : goal.invariant-loop-i
invariant-loop-i l = Running l.part l.from l.initial.out l.at l.out l.i l.k
