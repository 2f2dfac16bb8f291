-- `pair_thin::store_with` meets its contract. The invariant: all of the result but what is to come was counted, and is stored where there is room.
-- Assumes nothing.
use Rattle.image.specs.Taken.{steps_of}
use Rattle.pair_operation.specs.Result.{result_of}
use Rattle.pair_thin.specs.Inside.Round.{result_to_come, steps_to_come}
use Rattle.pair_thin.proofs.Coming.{Rounds}
use Rattle.pair_thin.proofs.Keeping.{Keeping}
use Rattle.pair_thin.proofs.store_with.Given as goal

abbrev pub invariant-loop-m : goal.invariant-loop-m
invariant-loop-m l =
    Rounds l.op l.first.source.image.now l.first.source.payload.now l.second.source.image.now l.second.source.payload.now l.initial.left l.initial.right l.initial.kept l.m l.left l.right l.kept
    × Keeping l.initial.steps (result_of l.op (steps_of l.first.source.image.now) (steps_of l.second.source.image.now)) l.steps l.n (result_to_come l.op l.first.source.image.now l.first.source.payload.now l.second.source.image.now l.second.source.payload.now l.m l.left l.right)

abbrev pub decreases-loop-m : goal.decreases-loop-m
decreases-loop-m l = steps_to_come l.first.source.image.now l.first.source.payload.now l.second.source.image.now l.second.source.payload.now l.m l.left l.right
