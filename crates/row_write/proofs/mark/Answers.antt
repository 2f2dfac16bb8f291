-- `row_write::mark` meets its contract: the marks of the steps from rank k on are left. Assumes nothing.
use mathlib.Core.Path.{◌≡◌, ◌∙◌}
use native.Mathlib.Omega.{arith}
use Rattle.row_write.proofs.Marking.{mark_from, mark_room, mark_next, mark_turn, mark_fits}
use Rattle.row_write.proofs.mark.Goals as goal

pub overflow_sub-bit : goal.overflow_sub-bit
overflow_sub-bit c = mark_from c.loop-k.invariant.1 _ (omega arith)

pub add-requires : goal.add-requires
add-requires c = (mark_room c.loop-k.invariant.1 _ (omega arith), mark_fits c.loop-k.invariant.1 (omega arith) _ c.one_at.ensures.0)

pub loop-k-preserved : goal.loop-k-preserved
loop-k-preserved c = let e = mark_turn c.loop-k.invariant.1 (omega arith) _ c.one_at.ensures.0 c.add.ensures in
    (c.add.auto.out ∙ c.loop-k.invariant.0, mark_next c.loop-k.invariant.1 c.add.auto.out e, e ∙ c.loop-k.invariant.2)
