-- `ask::Cursor::next` meets its contract, by what the check says and then by the rank. Assumes nothing.
use mathlib.Core.Path.{sym, ap, ◌∙◌}
use native.Mathlib.Omega.{arith}
use Rattle.rules.specs.Paper.{refusing}
use Rattle.rules.proofs.Passed.{passed}
use Rattle.read.proofs.Answers.{answer_no}
use Rattle.ask.specs.Cursor.{values, next_paper, next_in}
use Rattle.ask.proofs.Answers.{kept, next_over, next_end, next_found}
use Rattle.ask.proofs.Cursor.next.Goals as goal

pub returns-in_err-steps : goal.returns-in_err-steps
returns-in_err-steps c = ap next_paper (passed c.from_residual.result c.from_residual.ensures.1)
    ∙ sym (ap (next_in c.args.self.rank) (answer_no c.args.image.now c.check.ensures c.in_err-steps.was))

pub returns-then-steps-k : goal.returns-then-steps-k
returns-then-steps-k c = ap (refusing values) c.refuse.ensures ∙ next_over (kept c.check.ensures c.in_ok-steps.was) c.if-steps-k.true

pub returns-then-steps-k-2 : goal.returns-then-steps-k-2
returns-then-steps-k-2 c = next_end (kept c.check.ensures c.in_ok-steps.was) c.if-steps-k-2.true

pub step_at-step-requires : goal.step_at-step-requires
step_at-step-requires c = let k = kept c.check.ensures c.in_ok-steps.was in
    (k.takes, omega (arith, k.count, c.if-steps-k.false, c.if-steps-k-2.false))

pub returns : goal.returns
returns c = next_found (kept c.check.ensures c.in_ok-steps.was) (omega (arith, c.if-steps-k.false, c.if-steps-k-2.false)) c.step_at-step.ensures.0
