-- `plan::Tail::coded` meets its contract. The loop is a scan that passes all ranks of a look at once. Assumes nothing.
use Prim.Native.Nat.{◌-◌}
use lib.ListN.{length}
use Rattle.plan.specs.Inside.Work.{GoesOn, Scanning}
use Rattle.plan.proofs.Tail.coded.Given as goal

abbrev pub invariant-loop-j : goal.invariant-loop-j
invariant-loop-j l = Scanning (GoesOn l.self.list.now) (length l.self.list.now) l.self.rank l.j

abbrev pub decreases-loop-j : goal.decreases-loop-j
decreases-loop-j l = length l.self.list.now - l.j
