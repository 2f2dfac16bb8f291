-- `pair_thin::turns` meets its contract: each turn of the loop, and the last one after it, is a turn of `Turning`. Assumes nothing.
use Prim.Native.Nat.{◌≤◌, min}
use lib.ListN.{length}
use Rattle.pair_thin.proofs.Turning.{Going}
use Rattle.pair_thin.proofs.turns.Given as goal

abbrev pub invariant-loop : goal.invariant-loop
invariant-loop l =
    (l.counter ≤ min (length l.left) (length l.right)) × Going l.op l.left l.right l.initial.kept l.kept l.x l.y l.i l.j l.k l.counter
