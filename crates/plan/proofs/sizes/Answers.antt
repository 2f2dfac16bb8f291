-- `plan::sizes` meets its contract: each step is above its forerunner, and its code's size fits. Assumes nothing.
use mathlib.Core.Path.{refl}
use Prim.Native.Nat.{◌-◌}
use native.Mathlib.Omega.{arith}
use Rattle.plan.proofs.Ranks.{step_fits}
use Rattle.plan.proofs.Passes.{Sizing_start, Sizing_turn, sized_fits, past_before}
use Rattle.plan.proofs.sizes.Goals as goal

pub size-requires : goal.size-requires
size-requires c = omega (arith, (step_fits c.requires.0 0 (omega arith)).step)

pub overflow_cast-work : goal.overflow_cast-work
overflow_cast-work c = omega (arith, sized_fits _ c.size.ensures)

pub loop-i-init : goal.loop-i-init
loop-i-init c = Sizing_turn (Sizing_start c.args.list.now c.args.work.now) (omega arith) c.requires.1 (omega arith) (omega arith) c.size.ensures

pub overflow_add-from : goal.overflow_add-from
overflow_add-from c = omega (arith, (step_fits c.requires.0 (c.loop-i.i - 1) (omega (arith, c.loop-i-test.true))).step)

pub overflow_sub-list : goal.overflow_sub-list
overflow_sub-list c = omega (arith, (step_fits c.requires.0 c.loop-i.i c.loop-i-test.true).from, past_before c.args.list.now c.loop-i.i c.loop-i.auto.i)

pub size-requires-in-loop-i : goal.size-requires-in-loop-i
size-requires-in-loop-i c = omega (arith, (step_fits c.requires.0 c.loop-i.i c.loop-i-test.true).step)

pub overflow_cast-work-in-loop-i : goal.overflow_cast-work-in-loop-i
overflow_cast-work-in-loop-i c = omega (arith, sized_fits _ c.size-in-loop-i.ensures)

pub loop-i-preserved : goal.loop-i-preserved
loop-i-preserved c =
    Sizing_turn c.loop-i.invariant c.loop-i-test.true (omega (arith, c.requires.1, c.loop-i.invariant.kept.same)) refl
    (omega (arith, past_before c.args.list.now c.loop-i.i c.loop-i.auto.i)) c.size-in-loop-i.ensures
