-- `write::put_blocks` meets its contract. The invariant: the entries and the parts of the blocks that begin before rank `i` are stored.
-- Assumes nothing.
use mathlib.Core.List.{List}
use Prim.Native.Nat.{◌-◌}
use lib.ListN.{length}
use Rattle.cut.specs.Cut.{Block}
use Rattle.write.proofs.Laying.{Laying}
use Rattle.write.proofs.put_blocks.Given as goal

abbrev pub invariant-loop-i : goal.invariant-loop-i
invariant-loop-i l = (left : List Block) × Laying l.list l.work l.m l.initial.out l.out l.i l.at l.p left

abbrev pub decreases-loop-i : goal.decreases-loop-i
decreases-loop-i l = length l.list - l.i
