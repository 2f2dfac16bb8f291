-- `ask::start` meets its contract, by what the check says. Assumes nothing.
use mathlib.Core.Path.{sym, ap, ◌∙◌}
use Rattle.rules.proofs.Passed.{passed}
use Rattle.read.proofs.Answers.{answer_no}
use Rattle.ask.specs.Cursor.{placed_paper, start_in}
use Rattle.ask.proofs.Answers.{kept, start_first}
use Rattle.ask.proofs.start.Goals as goal

pub returns-in_err-check : goal.returns-in_err-check
returns-in_err-check c = ap placed_paper (passed c.from_residual.result c.from_residual.ensures.1)
    ∙ sym (ap start_in (answer_no c.args.image.now c.check.ensures c.in_err-check.was))

pub returns : goal.returns
returns c = start_first (kept c.check.ensures c.in_ok-check.was)
