-- `blocks_lines::contents_of` meets its contract, by what the check says. Assumes nothing.
use mathlib.Core.Path.{sym, ap, ◌∙◌}
use native.Mathlib.Omega.{arith}
use Rattle.rules.proofs.Passed.{passed}
use Rattle.image.proofs.Taken.{taken_is}
use Rattle.image_directory.proofs.Whole.{payload_within}
use Rattle.read.proofs.Answers.{answer_Yes, answer_no}
use Rattle.blocks_lines.specs.Listing.{paper_of, contents_paper}
use Rattle.blocks_lines.proofs.FirstLine.{contents_Yes}
use Rattle.blocks_lines.proofs.contents_of.Goals as goal

pub returns-in_err-steps : goal.returns-in_err-steps
returns-in_err-steps c = ap paper_of (passed c.from_residual.result c.from_residual.ensures.1)
    ∙ sym (ap (contents_paper c.args.image.now) (answer_no c.args.image.now c.check.ensures c.in_err-steps.was))

pub number_at-requires : goal.number_at-requires
number_at-requires c = let y = answer_Yes c.args.image.now c.check.ensures c.in_ok-steps.was in
    omega (arith, payload_within c.args.image.now (taken_is c.args.image.now y.list y.is).0)

pub returns : goal.returns
returns c = contents_Yes (answer_Yes c.args.image.now c.check.ensures c.in_ok-steps.was) c.number_at.result c.number_at.ensures.0
