-- `write_list::first_above` meets its contract. The invariant: no step before rank `i` is above the largest. Assumes nothing.
use Rattle.write_list.specs.Faults.{above}
use Rattle.write_list.specs.Inside.Passed.{Passed}
use Rattle.write_list.proofs.first_above.Given as goal

abbrev pub invariant-loop-i : goal.invariant-loop-i
invariant-loop-i l = Passed above l.list l.i
