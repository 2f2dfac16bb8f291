-- `row_word::put_ones` meets its contract: the ones of the bits that are left are still to be stored. Assumes nothing.
use Rattle.row_word.proofs.Clearing.{Clearing}
use Rattle.row_word.proofs.put_ones.Given as goal

abbrev pub invariant-loop-bits : goal.invariant-loop-bits
invariant-loop-bits l = Clearing l.word l.from l.initial.out l.at l.out l.bits l.k

abbrev pub decreases-loop-bits : goal.decreases-loop-bits
decreases-loop-bits l = l.bits
