-- `plan::Tail::codes_end` meets its contract. The loop is a scan past the ranks whose codes, with the rest, have no more bytes than the best cut from
-- there on.
-- Assumes nothing.
use lib.ListN.{length}
use Rattle.plan.specs.Inside.Work.{GoesOn, Scanning}
use Rattle.plan.proofs.Tail.codes_end.Given as goal

abbrev pub invariant-loop-j : goal.invariant-loop-j
invariant-loop-j l = Scanning (GoesOn l.self.list.now) (length l.self.list.now) l.self.rank l.j
