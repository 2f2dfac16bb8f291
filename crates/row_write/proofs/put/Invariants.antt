-- `row_write::put` meets its contract: the marks of the steps after the first `i` times eight are left, in bytes that were 0 at first. Assumes nothing.
use mathlib.Core.Path.{◌≡◌}
use Prim.Native.Nat.{◌*◌}
use lib.ListN.{length, drop}
use Rattle.row.specs.Row.{byte_bits}
use Rattle.row_write.specs.Inside.Marks.{marked, Markable}
use Rattle.row_write.proofs.put.Given as goal

abbrev pub invariant-loop-i : goal.invariant-loop-i
invariant-loop-i l =
    (length l.out ≡ length l.initial.out) × Markable l.from l.at l.list (byte_bits * l.i) l.out × (marked l.from l.at (drop (byte_bits * l.i) l.list) l.out ≡ marked l.from l.at l.list l.initial.out)
