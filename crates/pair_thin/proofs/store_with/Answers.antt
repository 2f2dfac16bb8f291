-- `pair_thin::store_with` meets its contract. The invariant: all of the result but what is to come was counted, and is stored where there is room.
-- Assumes nothing.
use mathlib.Core.Path.{refl, sym}
use Prim.Native.Nat.{◌≤◌}
use native.Mathlib.Omega.{arith}
use lib.ListN.{take, length-take}
use Rattle.rules.specs.Limits.Laws.{largest_coded}
use Rattle.rules.specs.Limits.{no_step}
use Rattle.image.specs.Taken.{steps_of}
use Rattle.pair_operation.specs.Result.{result_of}
use Rattle.pair_thin.proofs.Coming.{ready_end, start_is, Rounds_start, Rounds_turn, rounds_counted}
use Rattle.pair_thin.proofs.Keeping.{keeping_start, Keeping_run, keeping_end}
use Rattle.pair_thin.proofs.store_with.Goals as goal

pub loop-m-init : goal.loop-m-init
loop-m-init c = (
  Rounds_start c.args.op c.args.kept.now c.start-m.ensures refl refl,
  keeping_start c.args.steps.now (result_of c.args.op (steps_of c.args.first.source.image.now) (steps_of c.args.second.source.image.now)) (sym (start_is c.args.op c.start-m.ensures)),
)

pub overflow_add-n : goal.overflow_add-n
overflow_add-n c = let n = rounds_counted c.round-m.ensures c.loop-m.n (result_of c.args.op (steps_of c.args.first.source.image.now) (steps_of c.args.second.source.image.now)) c.loop-m.invariant.1.counted in
    omega (arith, n, c.loop-m.invariant.0.few, largest_coded)

pub loop-m-preserved : goal.loop-m-preserved
loop-m-preserved c = (
  Rounds_turn c.round-m.ensures c.loop-m.invariant.0 (omega arith) (omega arith) (omega arith),
  Keeping_run c.loop-m.invariant.1 (take c.round-m.result.kept c.round-m.new.kept) _ c.round-m.ensures.is (omega (arith, c.round-m.ensures.within, length-take c.round-m.result.kept c.round-m.new.kept)) (omega arith) c.put.ensures,
)

pub returns : goal.returns
returns c = let e : no_step ≤ c.loop-m.m.next = omega (arith, c.no_step-end.ensures) in
    let s = keeping_end c.loop-m.invariant.1 (ready_end c.loop-m.invariant.0.ready c.args.op e) in
    record { counted = s.0; kept = s.1 }
