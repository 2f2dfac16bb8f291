-- `row::kth` meets its contract. The invariant: the one looked for in the byte is the one looked for in the bits that are left.
-- Assumes nothing.
use mathlib.Core.Path.{◌≡◌}
use Rattle.row.specs.Row.{kth_one}
use Rattle.row.proofs.Places.{kth_left}
use Rattle.row.proofs.kth.Given as goal

abbrev pub invariant-loop-at : goal.invariant-loop-at
invariant-loop-at l = kth_one l.byte l.k ≡ kth_left l.at l.bits l.left
