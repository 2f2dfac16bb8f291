-- `image_directory::find` meets its contract: no entry that was passed has the answer. Assumes nothing.
use Rattle.image_directory.proofs.Seeking.{Seeking}
use Rattle.image_directory.proofs.find.Given as goal

abbrev pub invariant-loop-i : goal.invariant-loop-i
invariant-loop-i l = Seeking l.q l.image l.m l.b l.i
