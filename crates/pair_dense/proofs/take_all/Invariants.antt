-- `pair_dense::take_all` meets its contract. The invariant: all of the result but what it has ahead is counted, and stored where that is wanted.
-- Assumes nothing.
use Prim.Native.Nat.{◌-◌}
use Rattle.std.specs.Prelude.{IsTrue, nat_eq, not}
use Rattle.lists.proofs.Stores.{Storing}
use Rattle.rules.specs.Limits.{no_step}
use Rattle.image.specs.Taken.{steps_of}
use Rattle.pair_operation.specs.Result.{result_of}
use Rattle.pair_dense.specs.Inside.Walks.{Together, result_ahead}
use Rattle.pair_dense.proofs.Walking.{Counting}
use Rattle.pair_dense.proofs.take_all.Given as goal

abbrev pub invariant-loop-m : goal.invariant-loop-m
invariant-loop-m g l =
    let all = result_of l.op (steps_of l.first.source.image.now) (steps_of l.second.source.image.now) in
    let rest = result_ahead l.op l.first.source.image.now l.first.source.payload.now l.second.source.image.now l.second.source.payload.now l.m in
    Together l.first.source.image.now l.first.source.payload.now l.second.source.image.now l.second.source.payload.now l.m
    × Counting all l.n rest
    × (IsTrue (not (nat_eq g.row.STORED 0)) → Storing l.initial.steps 0 all l.steps l.n rest)

abbrev pub decreases-loop-m : goal.decreases-loop-m
decreases-loop-m g l = no_step - l.m.next
