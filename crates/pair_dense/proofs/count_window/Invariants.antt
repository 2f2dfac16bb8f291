-- `pair_dense::count_window` meets its contract. The invariant: the steps counted and those of the words to come are all of them. Assumes nothing.
use mathlib.Core.Path.{◌≡◌}
use Prim.Native.Nat.{◌+◌, ◌*◌, ◌≤◌}
use lib.ListN.{length}
use Rattle.row.specs.Words.{word_bits}
use Rattle.pair_dense.specs.Inside.Words.{steps_in}
use Rattle.pair_dense.proofs.Words.{left_in}
use Rattle.pair_dense.proofs.count_window.Given as goal

abbrev pub invariant-loop-a : goal.invariant-loop-a
invariant-loop-a l =
    (l.n ≤ word_bits * length l.yielded) × (l.n + length (left_in l.op 0 l.left l.right (length l.yielded)) ≡ length (steps_in l.op 0 l.left l.right))
