-- `plan::Tail::covered` meets its contract. The loop is a scan that passes many ranks at a look at the last of them. Assumes nothing.
use Prim.Native.Nat.{◌-◌, ◌≤◌}
use lib.ListN.{length}
use Rattle.plan.specs.Inside.Ahead.{reach_at}
use Rattle.plan.specs.Inside.Work.{Scanning}
use Rattle.plan.proofs.Tail.covered.Given as goal

abbrev pub invariant-loop-j : goal.invariant-loop-j
invariant-loop-j l = Scanning (λ u. reach_at l.self.list.now u ≤ l.top) (length l.self.list.now) l.self.rank l.j

abbrev pub decreases-loop-j : goal.decreases-loop-j
decreases-loop-j l = length l.self.list.now - l.j
