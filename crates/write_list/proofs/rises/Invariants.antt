-- `write_list::rises` meets its contract. The invariant: where `all` still says so, no step before rank `i` falls. Assumes nothing.
use mathlib.Core.Path.{◌≡◌}
use mathlib.Core.Bool.{true}
use Rattle.write_list.specs.Faults.{falls}
use Rattle.write_list.specs.Inside.Passed.{Passed}
use Rattle.write_list.proofs.rises.Given as goal

abbrev pub invariant-loop-i : goal.invariant-loop-i
invariant-loop-i l = l.all ≡ true → Passed falls l.list l.i
