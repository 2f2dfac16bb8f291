-- `pair_lay::lay_run` meets its contract: after the fours, each turn lays the walk's step and moves to the next. Assumes nothing.
use mathlib.Core.Path.{sym, subst}
use native.Mathlib.Omega.{arith}
use Rattle.rules.specs.Limits.Laws.{largest_coded}
use Rattle.image_walk.specs.Turns.{coded_walk}
use Rattle.pair_lay.specs.Inside.Runs.{Ran}
use Rattle.pair_lay.proofs.Running.{Ran_turn}
use Rattle.pair_lay.proofs.lay_run.Goals as goal
use Rattle.pair_lay.proofs.lay_run.Goals.{After-lay_fours-v, In-loop-step}

-- what the fours came to
fours : (c : After-lay_fours-v) → Ran c.args.payload.now c.args.w c.args.from c.args.words.now c.lay_fours-v.new.words (coded_walk c.lay_fours-v.result.step c.lay_fours-v.result.at c.args.w.end c.args.w.block)
fours c =
    subst (Ran c.args.payload.now c.args.w c.args.from c.args.words.now c.lay_fours-v.new.words) c.lay_fours-v.ensures.1 c.lay_fours-v.ensures.0

-- what the turns came to
ran : (c : In-loop-step) → Ran c.args.payload.now c.args.w c.args.from c.args.words.now c.loop-step.words (coded_walk c.loop-step.step c.loop-step.at c.args.w.end c.args.w.block)
ran c =
    c.loop-step.invariant c.args.words.now
    (subst (Ran c.args.payload.now c.args.w c.args.from c.args.words.now c.lay_fours-v.new.words) c.lay_fours-v.ensures.1 c.lay_fours-v.ensures.0)

pub lay_fours-v-requires : goal.lay_fours-v-requires
lay_fours-v-requires c = c.requires

pub overflow_mul-bound : goal.overflow_mul-bound
overflow_mul-bound c = omega (arith, c.requires.from_le_step, (fours (goal.at.overflow_mul-bound c).After-lay_fours-v).size)

pub overflow_add-bound : goal.overflow_add-bound
overflow_add-bound c = omega (arith, c.requires.from_le_step, (fours (goal.at.overflow_add-bound c).After-lay_fours-v).size, c.requires.placed.0.step, largest_coded)

pub loop-step-init : goal.loop-step-init
loop-step-init c = λ first s. s

pub single_at-requires : goal.single_at-requires
single_at-requires c = let i = ran (goal.at.single_at-requires c).In-loop-step in λ h. (i.placed.on i.on).within

pub overflow_sub-step : goal.overflow_sub-step
overflow_sub-step c = (ran (goal.at.overflow_sub-step c).In-loop-step).from

pub mark-requires : goal.mark-requires
mark-requires c = let i = ran (goal.at.mark-requires c).In-loop-step in
    let z = (fours (goal.at.mark-requires c).After-lay_fours-v).size in
    (omega (arith, c.loop-step-test.true, i.from, i.size, z), omega (arith, c.requires.from_le_step, i.size))

pub overflow_add-step : goal.overflow_add-step
overflow_add-step c = omega (arith, c.in-Some.ensures.small)

pub overflow_add-step-in-loop-step : goal.overflow_add-step-in-loop-step
overflow_add-step-in-loop-step c = omega (arith, c.in-Some.ensures.small, (ran (goal.at.overflow_add-step-in-loop-step c).In-loop-step).on, largest_coded)

pub overflow_add-at : goal.overflow_add-at
overflow_add-at c = let i = ran (goal.at.overflow_add-at c).In-loop-step in
    let o = i.placed.on i.on in
    omega (arith, c.in-Some.ensures.some, o.within, o.few)

pub loop-step-smaller : goal.loop-step-smaller
loop-step-smaller c = omega (arith, c.loop-step-test.true)

pub loop-step-preserved : goal.loop-step-preserved
loop-step-preserved c = λ first i.
    Ran_turn c.args.payload.now c.args.w c.args.from first c.loop-step.words c.loop-step.step c.loop-step.at (c.loop-step.invariant first i)
    (λ j. omega (arith, c.type_inv.payload j)) c.in-Some.ensures.some
    (omega (arith, c.loop-step-test.true, i.size)) c.in-Some.gap 1 c.in-Some.ensures.reads _ (omega arith) c.mark.ensures

pub returns : goal.returns
returns c = subst (Ran c.args.payload.now c.args.w c.args.from c.args.words.now c.loop-step.words) (sym c.coded.ensures)
    (c.loop-step.invariant c.args.words.now (fours (goal.at.returns c).After-lay_fours-v))
