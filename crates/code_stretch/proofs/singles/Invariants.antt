-- `code_stretch::singles` meets its contract: the bytes passed are added, and codes if none has the flag. Assumes nothing.
use Prim.Native.Nat.{◌+◌}
use Rattle.code_stretch.proofs.Runs.{Singles}
use Rattle.code_stretch.proofs.singles.Given as goal

abbrev pub invariant-loop-a : goal.invariant-loop-a
invariant-loop-a l = Singles l.s l.at (l.at + l.a-index) l.value l.largest
