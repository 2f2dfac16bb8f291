-- `row_word::put_groups` meets its contract: the groups from bit j on are still to be stored. Assumes nothing.
use Prim.Native.Nat.{◌-◌}
use Rattle.row.specs.Words.{word_bits}
use Rattle.row_word.proofs.Grouping.{Grouping}
use Rattle.row_word.proofs.put_groups.Given as goal

abbrev pub invariant-loop-j : goal.invariant-loop-j
invariant-loop-j l = Grouping l.word l.from l.initial.out l.at l.out l.bits l.j l.k

abbrev pub decreases-loop-j : goal.decreases-loop-j
decreases-loop-j l = word_bits - l.j
