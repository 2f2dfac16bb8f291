-- `read::put_blocks` meets its contract. The loop's invariant is `Putting`: each turn stores the steps of one block. Assumes nothing.
use Rattle.read.proofs.Turns.{Putting}
use Rattle.read.proofs.put_blocks.Given as goal

abbrev pub invariant-loop-i : goal.invariant-loop-i
invariant-loop-i l = Putting l.image l.payload l.m l.initial.out l.out l.b l.i l.at
