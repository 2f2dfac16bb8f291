-- `ask::Cursor::skip_to` meets its contract, by what the check says and then by the larger of its rank and that of the bound.
-- Assumes nothing.
use mathlib.Core.Path.{sym, ap, ◌∙◌}
use native.Mathlib.Omega.{arith}
use Rattle.lists.proofs.Below.{below-le}
use Rattle.rules.specs.Limits.Laws.{most_counted}
use Rattle.rules.specs.Paper.{refusing}
use Rattle.rules.proofs.Passed.{passed}
use Rattle.image.specs.Taken.{steps_of}
use Rattle.read.proofs.Answers.{answer_no}
use Rattle.ask.specs.Cursor.{values, placed_paper, skip_in}
use Rattle.ask.proofs.Answers.{kept, skip_over, skip_on, skip_stay}
use Rattle.ask.proofs.Cursor.skip_to.Goals as goal

pub returns-in_err-steps : goal.returns-in_err-steps
returns-in_err-steps c = ap placed_paper (passed c.from_residual.result c.from_residual.ensures.1)
    ∙ sym (ap (skip_in c.args.self.rank c.args.x) (answer_no c.args.image.now c.check.ensures c.in_err-steps.was))

pub returns-then-steps-k : goal.returns-then-steps-k
returns-then-steps-k c = ap (refusing values) c.refuse.ensures
    ∙ skip_over (kept c.check.ensures c.in_ok-steps.was) c.args.x c.if-steps-k.true

pub below_at-at-requires : goal.below_at-at-requires
below_at-at-requires c = let k = kept c.check.ensures c.in_ok-steps.was in (k.takes, k.count)

pub overflow_cast-at : goal.overflow_cast-at
overflow_cast-at c = let k = kept c.check.ensures c.in_ok-steps.was in
    omega (arith, c.below_at-at.ensures, below-le (steps_of c.args.image.now) c.args.x, k.count, k.few, most_counted)

pub returns-then-at-k : goal.returns-then-at-k
returns-then-at-k c = skip_stay (kept c.check.ensures c.in_ok-steps.was) c.args.x (λ i. omega (arith, c.type_inv.image i)) c.if-steps-k.false
    c.below_at-at.ensures c.if-at-k.true

pub returns : goal.returns
returns c = skip_on (kept c.check.ensures c.in_ok-steps.was) c.args.x c.if-steps-k.false c.below_at-at.ensures c.if-at-k.false
