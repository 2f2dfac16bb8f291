-- `ask::rank` meets its contract, by what the check says and then by the rank. Assumes nothing.
use mathlib.Core.Path.{sym, ap, ◌∙◌}
use native.Mathlib.Omega.{arith}
use Rattle.rules.specs.Paper.{refusing}
use Rattle.rules.proofs.Passed.{passed}
use Rattle.read.proofs.Answers.{answer_no}
use Rattle.ask.specs.Rank.{values, paper_of, rank_in}
use Rattle.ask.proofs.Answers.{kept, rank_found, rank_over}
use Rattle.ask.proofs.rank.Goals as goal

pub returns-in_err-steps : goal.returns-in_err-steps
returns-in_err-steps c = ap paper_of (passed c.from_residual.result c.from_residual.ensures.1)
    ∙ sym (ap (rank_in c.args.k) (answer_no c.args.image.now c.check.ensures c.in_err-steps.was))

pub returns-then-steps-k : goal.returns-then-steps-k
returns-then-steps-k c = ap (refusing values) c.refuse.ensures ∙ rank_over (kept c.check.ensures c.in_ok-steps.was) c.if-steps-k.true

pub step_at-requires : goal.step_at-requires
step_at-requires c = let k = kept c.check.ensures c.in_ok-steps.was in (k.takes, omega (arith, k.count, c.if-steps-k.false))

pub returns : goal.returns
returns c = rank_found (kept c.check.ensures c.in_ok-steps.was) c.if-steps-k.false c.step_at.ensures.0
