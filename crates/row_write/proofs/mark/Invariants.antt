-- `row_write::mark` meets its contract: the marks of the steps from rank k on are left. Assumes nothing.
use mathlib.Core.Path.{◌≡◌}
use lib.ListN.{length, drop}
use Rattle.row_write.specs.Inside.Marks.{marked, Markable}
use Rattle.row_write.proofs.mark.Given as goal

abbrev pub invariant-loop-k : goal.invariant-loop-k
invariant-loop-k l =
    (length l.out ≡ length l.initial.out) × Markable l.from l.at l.list l.k l.out × (marked l.from l.at (drop l.k l.list) l.out ≡ marked l.from l.at (drop l.i l.list) l.initial.out)
