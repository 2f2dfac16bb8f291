-- `codes_write::put_singles` meets its contract. The invariant: the codes have been stored, but for those of the steps from rank `i` on, each a
-- single byte. Assumes nothing.
use Prim.Native.Nat.{◌+◌, ◌≤◌}
use lib.ListN.{drop}
use Rattle.lists.specs.Rising.{Rising, beyond}
use Rattle.lists.proofs.Stores.{Storing}
use Rattle.code.specs.Code.{code_values}
use Rattle.codes.specs.Codes.{codes_for}
use Rattle.codes_write.specs.Inside.Groups.{Near}
use Rattle.codes_write.proofs.put_singles.Given as goal

abbrev pub invariant-loop-i : goal.invariant-loop-i
invariant-loop-i l =
    Storing l.initial.out l.at (codes_for l.from l.list) l.out (l.at + l.i) (codes_for l.next (drop l.i l.list))
    × Rising l.next (drop l.i l.list)
    × (beyond l.next (drop l.i l.list) ≤ code_values)
    × Near l.next (drop l.i l.list)
