-- `write::write` meets its contract: by what the tests of the list say, and then by the room in the work area. Assumes nothing.
use mathlib.Core.Path.{refl, sym, ap, ◌∙◌}
use native.Mathlib.Omega.{arith}
use lib.ListN.{length}
use Rattle.std.specs.Prelude.{Err}
use Rattle.rules.specs.Limits.Laws.{most_counted}
use Rattle.rules.specs.Refusals.{work_too_short, refusal}
use Rattle.rules.proofs.Passed.{passed}
use Rattle.write_list.proofs.Tests.{Accepted-Listed}
use Rattle.write.proofs.Outcomes.{outcome_refused, outcome_work, Promise_stopped}
use Rattle.write.proofs.write.Goals as goal

pub returns-in_err-test : goal.returns-in_err-test
returns-in_err-test c = Promise_stopped (passed c.from_residual.result c.from_residual.ensures.1) refl
    (outcome_refused c.args.list.now (length c.args.work.now) (length c.args.out.now) (sym c.test.ensures ∙ c.in_err-test.was))

pub work_for-need-requires : goal.work_for-need-requires
work_for-need-requires c = omega (arith, (Accepted-Listed (sym c.test.ensures ∙ c.in_ok-test.was)).few)

pub overflow_cast-need : goal.overflow_cast-need
overflow_cast-need c = omega (arith, c.work_for-need.ensures, (Accepted-Listed (sym c.test.ensures ∙ c.in_ok-test.was)).few, most_counted)

pub returns-then-work-need : goal.returns-then-work-need
returns-then-work-need c = Promise_stopped (ap Err c.refuse.ensures) (ap (refusal work_too_short) c.work_for-need.ensures)
    (outcome_work c.args.list.now (length c.args.work.now) (length c.args.out.now) (Accepted-Listed (sym c.test.ensures ∙ c.in_ok-test.was))
    (omega (arith, c.work_for-need.ensures, c.if-work-need.true)))

pub write_listed-requires : goal.write_listed-requires
write_listed-requires c = (Accepted-Listed (sym c.test.ensures ∙ c.in_ok-test.was), omega (arith, c.work_for-need.ensures, c.if-work-need.false))
