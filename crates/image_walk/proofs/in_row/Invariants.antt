-- `image_walk::in_row` meets its contract: the words passed had no one, and the row's last one is still to come. Assumes nothing.
use Prim.Native.Nat.{◌-◌}
use Rattle.image_walk.proofs.Loading.{Seeking}
use Rattle.image_walk.proofs.in_row.Given as goal

abbrev pub invariant-loop-bits : goal.invariant-loop-bits
invariant-loop-bits l = Seeking l.payload l.p l.at l.low l.bits

abbrev pub decreases-loop-bits : goal.decreases-loop-bits
decreases-loop-bits l = l.end - l.at
