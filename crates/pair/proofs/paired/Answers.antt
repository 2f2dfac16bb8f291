-- `pair::paired` meets its contract: each image is checked in turn, and a refusal is that image's. Assumes nothing.
use mathlib.Core.Path.{ap, ◌∙◌}
use Rattle.std.specs.Prelude.{Err}
use Rattle.std.proofs.Common.{rules}
use Rattle.rules.proofs.Passed.{passed}
use Rattle.read.proofs.Answers.{answer_no}
use Rattle.pair.proofs.Outcomes.{Promise-first, Promise-second}
use Rattle.pair.proofs.Sides.{sided_Err, sided_Taken}
use Rattle.pair.proofs.paired.Goals as goal

pub counted-requires : goal.counted-requires
counted-requires c = (
  sided_Taken _ c.args.first.now c.check.result c.check.ensures c.map_err.ensures.cases c.in_ok-n.was,
  sided_Taken _ c.args.second.now c.check-2.result c.check-2.ensures c.map_err-2.ensures.cases c.in_ok-m.was,
)

pub returns-in_err-n : goal.returns-in_err-n
returns-in_err-n c = let t = sided_Err _ 1 c.check.result c.map_err.ensures.cases c.in_err-n.was (λ e p h. search rules) in
    Promise-first c.args.op c.args.first.now c.args.second.now (answer_no c.args.first.now c.check.ensures t.1)
    (passed c.from_residual.result c.from_residual.ensures.1 ∙ ap Err t.2)

pub returns-in_err-m : goal.returns-in_err-m
returns-in_err-m c = let t = sided_Err _ 2 c.check-2.result c.map_err-2.ensures.cases c.in_err-m.was (λ e p h. search rules) in
    Promise-second c.args.op c.args.first.now c.args.second.now
    (sided_Taken _ c.args.first.now c.check.result c.check.ensures c.map_err.ensures.cases c.in_ok-n.was)
    (answer_no c.args.second.now c.check-2.ensures t.1)
    (passed c.from_residual-in_err-m.result c.from_residual-in_err-m.ensures.1 ∙ ap Err t.2)
