-- `pair_dense::put_window` meets its contract. The invariant: the steps from word i on are left to store. Assumes nothing.
use Rattle.lists.proofs.Stores.{Storing}
use Rattle.pair_dense.specs.Inside.Words.{steps_in}
use Rattle.pair_dense.proofs.Words.{left_in}
use Rattle.pair_dense.proofs.put_window.Given as goal

abbrev pub invariant-loop-i : goal.invariant-loop-i
invariant-loop-i l =
    Storing l.initial.steps l.at (steps_in l.op l.from l.left l.right) l.steps l.k (left_in l.op l.from l.left l.right l.i)
