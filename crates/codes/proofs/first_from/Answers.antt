-- `codes::first_from` meets its contract. The invariant: `index` steps were passed, which are below x, and what is looked for is found among
-- those that are left.
-- Assumes nothing.
use mathlib.Core.Path.{sym, ap, ◌∙◌}
use mathlib.Core.List.{List}
use Prim.Native.Nat.{ℕ}
use native.Mathlib.Omega.{arith}
use Rattle.lists.specs.Below.{below}
use Rattle.lists.proofs.Below.{below-nil, below-here, below-past, below-le}
use Rattle.codes.specs.Codes.{steps_from, list_of}
use Rattle.codes.proofs.Finding.{found_none, found_here, found_past}
use Rattle.codes.proofs.Turns.{steps_few}
use Rattle.codes.proofs.first_from.Goals as goal

pub returns-then-x-step : goal.returns-then-x-step
returns-then-x-step c = (
  omega (arith, c.loop-step.invariant.2, ap (λ (r : List ℕ). below r c.args.x) c.in-Some.ensures.steps ∙ below-here c.in-Some.step _ c.args.x (omega arith)),
  sym (c.loop-step.invariant.3 ∙ found_here c.args.x c.in-Some.ensures.steps (omega arith)),
)

pub overflow_add-index : goal.overflow_add-index
overflow_add-index c =
    omega (
      arith,
      c.loop-step.invariant.2,
      ap (λ (r : List ℕ). below r c.args.x) c.in-Some.ensures.steps ∙ below-past c.in-Some.step _ c.args.x (omega arith),
      below-le (list_of (steps_from c.args.from c.args.part.now c.args.start)) c.args.x,
      steps_few c.args.from c.args.part.now c.args.start c.requires.1.0,
    )

pub loop-step-preserved : goal.loop-step-preserved
loop-step-preserved c = (
  tt,
  tt,
  omega (arith, c.loop-step.invariant.2, ap (λ (r : List ℕ). below r c.args.x) c.in-Some.ensures.steps ∙ below-past c.in-Some.step _ c.args.x (omega arith)),
  c.loop-step.invariant.3 ∙ found_past c.args.x c.in-Some.ensures.steps (omega arith),
)

pub returns : goal.returns
returns c = let n = c.in-None.ensures.steps.0 in (
  omega (arith, c.loop-step.invariant.2, ap (λ (r : List ℕ). below r c.args.x) n ∙ below-nil c.args.x),
  sym (c.loop-step.invariant.3 ∙ found_none c.args.x n),
)
