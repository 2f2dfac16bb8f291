-- `code_stretch::tally` meets its contract: what is added and what the bytes from i on say is all. Assumes nothing.
use Rattle.code_stretch.proofs.Bytewise.{Adding}
use Rattle.code_stretch.proofs.tally.Given as goal

abbrev pub invariant-loop-i : goal.invariant-loop-i
invariant-loop-i l = Adding l.s l.at l.upto l.i l.low l.second l.third l.fourth l.ends l.flaws
