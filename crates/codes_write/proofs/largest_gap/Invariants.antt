-- `codes_write::largest_gap` meets its contract: where the largest gap so far is below 128, only the gaps from rank `i` on are in question.
-- Assumes nothing.
use Prim.Native.Nat.{◌≤◌, ◌<◌}
use lib.ListN.{drop}
use Rattle.lists.specs.Rising.{Rising, beyond}
use Rattle.code.specs.Code.{one_group, code_values}
use Rattle.codes_write.specs.Inside.Groups.{Near}
use Rattle.codes_write.proofs.largest_gap.Given as goal

abbrev pub invariant-loop-x : goal.invariant-loop-x
invariant-loop-x l =
    Rising l.next (drop l.x-index l.list)
    × (beyond l.next (drop l.x-index l.list) ≤ code_values)
    × (l.largest < one_group → Near l.next (drop l.x-index l.list) → Near l.from l.list)
