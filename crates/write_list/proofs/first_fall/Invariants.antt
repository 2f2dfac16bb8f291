-- `write_list::first_fall` meets its contract: where not all steps rise, a search finds the first that does not. The invariant: no step before
-- rank `i` falls. Assumes nothing.
use Rattle.write_list.specs.Faults.{falls}
use Rattle.write_list.specs.Inside.Passed.{Passed}
use Rattle.write_list.proofs.first_fall.Given as goal

abbrev pub invariant-loop-i : goal.invariant-loop-i
invariant-loop-i l = Passed falls l.list l.i
