-- `read::blocks` meets its contract. The loop's invariant is `Checking`: a block that has no number goes on, one that has a number halts.
-- Assumes nothing.
use Rattle.read.proofs.Turns.{Checking}
use Rattle.read.proofs.blocks.Given as goal

abbrev pub invariant-loop-i : goal.invariant-loop-i
invariant-loop-i l = Checking l.image l.payload l.m l.b l.i
