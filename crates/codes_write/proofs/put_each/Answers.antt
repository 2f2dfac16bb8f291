-- `codes_write::put_each` meets its contract, step by step. Assumes nothing.
use Prim.Native.Nat.{◌-◌}
use native.Mathlib.Omega.{arith}
use lib.ListN.{get_or}
use Rattle.lists.proofs.Stores.{Storing_run, storing_end}
use Rattle.code.specs.Code.{code_of}
use Rattle.codes_write.proofs.Writing.{Next, next, codes_none}
use Rattle.codes_write.proofs.put_each.Goals as goal
use Rattle.codes_write.proofs.put_each.Goals.{In-loop-x}

-- the step of this turn
this : (c : In-loop-x) → Next c.loop-x.next c.args.list.now c.loop-x.x-index
this c = next c.loop-x.next c.args.list.now c.loop-x.x-index (omega arith) c.loop-x.invariant.1 c.loop-x.invariant.2

pub overflow_sub-x : goal.overflow_sub-x
overflow_sub-x c = (this (goal.at.overflow_sub-x c).In-loop-x).least

pub put-p-requires : goal.put-p-requires
put-p-requires c =
    let t = this (goal.at.put-p-requires c).In-loop-x in
    (omega (arith, t.small), omega (arith, c.loop-x.invariant.0.room, t.room))

pub overflow_add-next : goal.overflow_add-next
overflow_add-next c = omega (arith, (this (goal.at.overflow_add-next c).In-loop-x).small)

pub loop-x-preserved : goal.loop-x-preserved
loop-x-preserved c =
    let t = this (goal.at.loop-x-preserved c).In-loop-x in
    let v = get_or c.args.list.now c.loop-x.x-index 0 - c.loop-x.next in (
      Storing_run c.loop-x.invariant.0 (code_of v) _ t.codes c.put-p.ensures.place c.put-p.ensures.stores,
      t.rising,
      t.end,
    )

pub returns : goal.returns
returns c = storing_end c.loop-x.invariant.0 (codes_none c.loop-x.next c.args.list.now c.loop-x.x-index (omega arith))
