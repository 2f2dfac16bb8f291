-- `codes_write::put_each` meets its contract. The invariant: the codes have been stored, but for those of the steps from rank `i` on, which go to
-- the place `p`. Assumes nothing.
use Prim.Native.Nat.{◌≤◌}
use lib.ListN.{drop}
use Rattle.lists.specs.Rising.{Rising, beyond}
use Rattle.lists.proofs.Stores.{Storing}
use Rattle.code.specs.Code.{code_values}
use Rattle.codes.specs.Codes.{codes_for}
use Rattle.codes_write.proofs.put_each.Given as goal

abbrev pub invariant-loop-x : goal.invariant-loop-x
invariant-loop-x l =
    Storing l.initial.out l.at (codes_for l.from l.list) l.out l.p (codes_for l.next (drop l.x-index l.list))
    × Rising l.next (drop l.x-index l.list)
    × (beyond l.next (drop l.x-index l.list) ≤ code_values)
