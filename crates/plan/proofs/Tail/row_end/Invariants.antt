-- `plan::Tail::row_end` meets its contract. The loop is a scan past the ranks whose reach a row of `r` bytes covers.
-- Assumes nothing.
use Prim.Native.Nat.{◌+◌, ◌*◌, ◌≤◌}
use lib.ListN.{length}
use Rattle.lists.specs.Rising.{past}
use Rattle.row.specs.Row.{byte_bits}
use Rattle.plan.specs.Inside.Ahead.{reach_at}
use Rattle.plan.specs.Inside.Work.{Scanning}
use Rattle.plan.proofs.Tail.row_end.Given as goal

abbrev pub invariant-loop-j : goal.invariant-loop-j
invariant-loop-j l = Scanning (λ u. reach_at l.self.list.now u ≤ past l.self.list.now l.self.rank + byte_bits * l.r) (length l.self.list.now) l.self.rank l.j
