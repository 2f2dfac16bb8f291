-- `pair_thin::put` meets its contract: the numbers from `i` on are left to store. Assumes nothing.
use Prim.Native.Nat.{◌+◌}
use lib.ListN.{drop}
use Rattle.lists.proofs.Stores.{Storing}
use Rattle.pair_thin.proofs.put.Given as goal

abbrev pub invariant-loop-i : goal.invariant-loop-i
invariant-loop-i l = Storing l.initial.steps l.at l.numbers l.steps (l.at + l.i) (drop l.i l.numbers)
