-- `pair_feed::run` meets its contract: each turn stores two steps and moves past two short codes. Assumes nothing.
use mathlib.Core.Path.{sym, subst}
use native.Mathlib.Omega.{arith}
use lib.ListN.{set}
use Rattle.image_walk.proofs.Payload.{payload_bytes}
use Rattle.pair_feed.specs.declared.Feed.{Feed}
use Rattle.pair_feed.specs.Inside.Growth.{Grown}
use Rattle.pair_feed.proofs.Coding.{run_small, run_start, run_one, run_two}
use Rattle.pair_feed.proofs.run.Goals as goal

pub loop-k-init : goal.loop-k-init
loop-k-init c = run_start c.requires.stands.0 c.requires.stands.1.0 c.requires.stands.1.1 c.requires.steps_nonzero.1.0

pub overflow_add-between : goal.overflow_add-between
overflow_add-between c = omega (arith, run_small c.loop-k.invariant (omega arith))

pub overflow_add-between-in-loop-k : goal.overflow_add-between-in-loop-k
overflow_add-between-in-loop-k c = omega (arith, run_small c.loop-k.invariant (omega arith), c.short-x.ensures.small)

pub overflow_cast-steps : goal.overflow_cast-steps
overflow_cast-steps c = omega (arith, run_small c.loop-k.invariant (omega arith))

pub returns-then-x-y-ne0 : goal.returns-then-x-y-ne0
returns-then-x-y-ne0 c =
    subst (λ (g : Feed). Grown c.args.source.image.now c.args.source.payload.now c.args.f c.args.steps.now g (set c.loop-k.steps c.loop-k.k c.loop-k.step)) (sym c.among-then-x-y-ne0.ensures)
    (run_one c.loop-k.invariant (omega arith) (payload_bytes c.args.source) (omega arith) c.short-x.ensures (omega arith)).0

pub overflow_cast-steps-in-loop-k : goal.overflow_cast-steps-in-loop-k
overflow_cast-steps-in-loop-k c = omega (arith, run_small c.loop-k.invariant (omega arith))

pub overflow_cast-steps-in-loop-k-2 : goal.overflow_cast-steps-in-loop-k-2
overflow_cast-steps-in-loop-k-2 c = omega (arith, run_small c.loop-k.invariant (omega arith), c.short-x.ensures.small)

pub overflow_add-step : goal.overflow_add-step
overflow_add-step c = omega (arith, run_small c.loop-k.invariant (omega arith), c.short-x.ensures.small)

pub overflow_add-step-in-loop-k : goal.overflow_add-step-in-loop-k
overflow_add-step-in-loop-k c = omega (arith, run_small c.loop-k.invariant (omega arith), c.short-x.ensures.small, c.short-y.ensures.small)

pub loop-k-preserved : goal.loop-k-preserved
loop-k-preserved c =
    run_two c.loop-k.invariant (omega arith) (payload_bytes c.args.source) (omega arith) c.short-x.ensures (omega arith) c.short-y.ensures (omega arith)
