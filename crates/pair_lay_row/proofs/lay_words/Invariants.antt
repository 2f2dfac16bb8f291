-- `pair_lay_row::lay_words` meets its contract: each turn lays the next word of the row, and the row's last is left. Assumes nothing.
use Rattle.pair_lay_row.proofs.Laying.{Rowing}
use Rattle.pair_lay_row.proofs.lay_words.Given as goal

abbrev pub invariant-loop-i : goal.invariant-loop-i
invariant-loop-i l = Rowing l.payload l.p l.from l.initial.words l.i l.words
