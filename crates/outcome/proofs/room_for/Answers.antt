-- `outcome::room_for` meets its contract: each way out goes by the tests that lead to it. Assumes nothing.
use mathlib.Core.Path.{sym, ap, ◌∙◌}
use Prim.Native.Nat.{ℕ}
use native.Mathlib.Omega.{arith}
use Rattle.std.specs.Prelude.{Err}
use Rattle.rules.specs.Limits.Laws.{most_counted}
use Rattle.rules.specs.Refusals.{work_too_short, refusal}
use Rattle.outcome.proofs.Results.{room_many, room_steps, room_work, room_enough}
use Rattle.outcome.proofs.room_for.Goals as goal

pub returns-then-n-most_steps : goal.returns-then-n-most_steps
returns-then-n-most_steps c = ap Err c.refuse.ensures ∙ sym (room_many c.args.n c.args.steps c.args.work (omega arith))

pub overflow_cast-n : goal.overflow_cast-n
overflow_cast-n c = omega (arith, most_counted)

pub returns-then-steps-n : goal.returns-then-steps-n
returns-then-steps-n c = ap Err c.refuse-then-steps-n.ensures ∙ sym (room_steps c.args.n c.args.steps c.args.work (omega arith) (omega arith))

pub overflow_cast-need : goal.overflow_cast-need
overflow_cast-need c = omega (arith, most_counted)

pub returns-then-work-need : goal.returns-then-work-need
returns-then-work-need c = ap Err c.refuse-then-work-need.ensures
    ∙ ap (λ (k : ℕ). Err (refusal work_too_short k)) c.work_for-need.ensures
    ∙ sym (room_work c.args.n c.args.steps c.args.work (omega arith) (omega arith) (omega arith))

pub returns : goal.returns
returns c = sym (room_enough c.args.n c.args.steps c.args.work (record { few = omega arith; steps_room = omega arith; work_room = omega arith }))
