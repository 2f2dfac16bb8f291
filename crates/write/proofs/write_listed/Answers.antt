-- `write::write_listed` meets its contract: the bytes of the plan decide whether the image is put, and the work area is cleared either way.
-- Assumes nothing.
use native.Mathlib.Omega.{arith}
use mathlib.Core.Path.{ap, ◌∙◌}
use Rattle.std.specs.Prelude.{Err}
use Rattle.rules.specs.Limits.Laws.{most_counted}
use Rattle.write.proofs.Outcomes.{length_planned, planned_fits, planned_Marks, Promise_unplaced, Promise_placed}
use Rattle.write.proofs.write_listed.Goals as goal
use Rattle.write.proofs.write_listed.Goals.{then-bytes-out, else-bytes-out}

pub overflow_add-bytes : goal.overflow_add-bytes
overflow_add-bytes c = omega (arith, planned_fits c.plan-totals.ensures c.requires.0)

pub put_image-requires : goal.put_image-requires
put_image-requires c = (planned_Marks c.plan-totals.ensures c.requires.0 c.requires.1, c.plan-totals.ensures.blocks, omega (arith, length_planned c.plan-totals.ensures))

pub overflow_cast-answer : goal.overflow_cast-answer
overflow_cast-answer c = omega (arith, c.requires.0.few, most_counted)

pub overflow_cast-answer-then-bytes-out : goal.overflow_cast-answer-then-bytes-out
overflow_cast-answer-then-bytes-out c = omega (arith, planned_fits c.plan-totals.ensures c.requires.0)

pub overflow_cast-bytes : goal.overflow_cast-bytes
overflow_cast-bytes c = omega (arith, planned_fits c.plan-totals.ensures c.requires.0)

pub returns : goal.returns
returns c = let front = c.fill.ensures.after (λ y h. h) in
    elim c.if-bytes-out.branch [
      | then-bytes-out w ↦ Promise_placed c.plan-totals.ensures c.requires.0 c.requires.1 c.work_for.ensures front c.args.out.now w.if-bytes-out.true w.answer-is (w.out-is ∙ w.put_image.ensures)
      | else-bytes-out w ↦ Promise_unplaced c.plan-totals.ensures c.requires.0 c.requires.1 c.work_for.ensures front c.args.out.now (omega (arith, w.if-bytes-out.false)) (w.answer-is ∙ ap Err w.refuse.ensures) w.out-is
    ]
