-- `codes_write::put` meets its contract. The invariant: the codes have been stored, but for those of the steps from rank `i` on, which go to
-- the place `p`. Assumes nothing.
use Prim.Native.Nat.{◌-◌, ◌≤◌}
use lib.ListN.{length, drop}
use Rattle.lists.specs.Rising.{Rising, beyond}
use Rattle.lists.proofs.Stores.{Storing}
use Rattle.code.specs.Code.{code_values}
use Rattle.codes.specs.Codes.{codes_for}
use Rattle.codes_write.proofs.put.Given as goal

abbrev pub invariant-loop-i : goal.invariant-loop-i
invariant-loop-i l =
    (l.i ≤ length l.list)
    × Storing l.initial.out l.at (codes_for l.from l.list) l.out l.p (codes_for l.next (drop l.i l.list))
    × Rising l.next (drop l.i l.list)
    × (beyond l.next (drop l.i l.list) ≤ code_values)

abbrev pub decreases-loop-i : goal.decreases-loop-i
decreases-loop-i l = length l.list - l.i
