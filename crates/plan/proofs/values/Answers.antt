-- `plan::values` meets its contract. The loop's invariant: the numbers ahead of the ranks from `i` on stand in the work area, what the rank before
-- needs of them is known, and the sizes of the other codes still stand.
-- Assumes nothing.
use mathlib.Core.Path.{refl, sym}
use Prim.Native.Nat.{◌-◌}
use native.Mathlib.Omega.{arith}
use lib.ListN.{length}
use Rattle.plan.proofs.Ranks.{step_fits}
use Rattle.plan.proofs.Passes.{Valuing_start, turn_fits, turn_Ready, turn_Kept, grow_fits, Valuing-Turn, past_before}
use Rattle.plan.proofs.values.Goals as goal

pub overflow_add-turn-2 : goal.overflow_add-turn-2
overflow_add-turn-2 c = omega (arith, (step_fits c.requires.0 (length c.args.list.now - 1) (omega arith)).step)

pub loop-i-init : goal.loop-i-init
loop-i-init c = (
  omega arith,
  Valuing_start (length c.args.list.now - 1) c.requires.0 c.requires.1 c.requires.2 (omega arith) refl,
)

pub keep-codes-requires : goal.keep-codes-requires
keep-codes-requires c = let f = turn_fits (c.loop-i.i - 1) c.loop-i.invariant.1 (omega arith) in
    (omega (arith, c.loop-i.invariant.1.within), c.loop-i.invariant.1.ready.room, c.loop-i.invariant.1.ready.listed.few, f.0, f.1)

pub overflow_add-list : goal.overflow_add-list
overflow_add-list c = omega (arith, (step_fits c.requires.0 (c.loop-i.i - 1 - 1) (omega arith)).step)

pub grow-turn-requires : goal.grow-turn-requires
grow-turn-requires c = grow_fits (c.loop-i.i - 1) c.loop-i.invariant.1 (omega arith) refl c.keep-codes.ensures.0 c.keep-codes.ensures.1 (sym (past_before c.args.list.now (c.loop-i.i - 1) (omega (arith, c.loop-i-test.true))))

pub loop-i-preserved : goal.loop-i-preserved
loop-i-preserved c = (
  omega (arith, c.loop-i-test.true),
  Valuing-Turn (c.loop-i.i - 1) c.loop-i.invariant.1 (omega arith) refl c.keep-codes.ensures.0 c.keep-codes.ensures.1 (sym (past_before c.args.list.now (c.loop-i.i - 1) (omega (arith, c.loop-i-test.true)))) c.grow-turn.ensures,
)

pub keep-requires : goal.keep-requires
keep-requires c = let f = turn_fits 0 c.loop-i.invariant.1 (omega (arith, c.loop-i.invariant.0, c.loop-i-test.false)) in
    (omega (arith, c.loop-i.invariant.1.within), c.loop-i.invariant.1.ready.room, c.loop-i.invariant.1.ready.listed.few, f.0, f.1)

pub returns : goal.returns
returns c = (turn_Kept 0 c.loop-i.invariant.1 (omega (arith, c.loop-i.invariant.0, c.loop-i-test.false)) refl c.keep.ensures.0 c.keep.ensures.1, turn_Ready 0 c.loop-i.invariant.1 (omega (arith, c.loop-i.invariant.0, c.loop-i-test.false)) refl c.keep.ensures.0 c.keep.ensures.1)
