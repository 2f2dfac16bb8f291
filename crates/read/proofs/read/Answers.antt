-- `read::read` meets its contract: a refusal of the check, a buffer that is too short, or the steps put into its front. Assumes nothing.
use mathlib.Core.Path.{ap, ◌∙◌}
use native.Mathlib.Omega.{arith}
use lib.Seq.{sets}
use Rattle.rules.specs.Paper.{refusing}
use Rattle.rules.proofs.Passed.{passed}
use Rattle.image_directory.proofs.Whole.{payload_within}
use Rattle.read.specs.Read.{values, paper_of}
use Rattle.read.proofs.Answers.{answer_Yes, answer_no}
use Rattle.read.proofs.Outcomes.{read_no, read_short, read_full, taken_Ready, taken_list, yes_Taken_is}
use Rattle.read.proofs.read.Goals as goal

pub returns-in_err-n : goal.returns-in_err-n
returns-in_err-n c = let t = read_no c.args.image.now c.args.steps.now (answer_no c.args.image.now c.check.ensures c.in_err-n.was) in
    (ap paper_of (passed c.from_residual.result c.from_residual.ensures.1) ∙ t.0, t.1)

pub returns-then-steps-n : goal.returns-then-steps-n
returns-then-steps-n c = let t = read_short c.args.image.now c.args.steps.now (answer_Yes c.args.image.now c.check.ensures c.in_ok-n.was) c.if-steps-n.true in
    (ap (refusing values) c.refuse.ensures ∙ t.0, t.1)

pub number_at-m-requires : goal.number_at-m-requires
number_at-m-requires c = omega (arith, payload_within c.args.image.now (yes_Taken_is (answer_Yes c.args.image.now c.check.ensures c.in_ok-n.was)))

pub payload-payload-requires : goal.payload-payload-requires
payload-payload-requires c = payload_within c.args.image.now (yes_Taken_is (answer_Yes c.args.image.now c.check.ensures c.in_ok-n.was))

pub put_blocks-requires : goal.put_blocks-requires
put_blocks-requires c =
    taken_Ready (answer_Yes c.args.image.now c.check.ensures c.in_ok-n.was) c.number_at-m.ensures.0 c.payload-payload.ensures
    (λ i. omega (arith, c.type_inv.image i)) c.if-steps-n.false

pub returns : goal.returns
returns c = let y = answer_Yes c.args.image.now c.check.ensures c.in_ok-n.was in
    let t = read_full c.args.image.now c.args.steps.now y c.if-steps-n.false in
    (t.0, c.put_blocks.ensures ∙ ap (sets c.args.steps.now 0) (taken_list y c.number_at-m.ensures.0 c.payload-payload.ensures) ∙ t.1)
