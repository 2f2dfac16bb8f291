-- `codes_write::largest_gap` meets its contract, step by step. Assumes nothing.
use native.Mathlib.Omega.{arith}
use Rattle.codes_write.proofs.Writing.{Next, next}
use Rattle.codes_write.proofs.Groups.{near_none, Near-cons}
use Rattle.codes_write.proofs.largest_gap.Goals as goal
use Rattle.codes_write.proofs.largest_gap.Goals.{In-loop-x}

-- the step of this turn
this : (c : In-loop-x) → Next c.loop-x.next c.args.list.now c.loop-x.x-index
this c = next c.loop-x.next c.args.list.now c.loop-x.x-index (omega arith) c.loop-x.invariant.0 c.loop-x.invariant.1

pub overflow_sub-x : goal.overflow_sub-x
overflow_sub-x c = (this (goal.at.overflow_sub-x c).In-loop-x).least

pub overflow_add-next : goal.overflow_add-next
overflow_add-next c = omega (arith, (this (goal.at.overflow_add-next c).In-loop-x).small)

pub loop-x-preserved : goal.loop-x-preserved
loop-x-preserved c =
    let t = this (goal.at.loop-x-preserved c).In-loop-x in (
      t.rising,
      t.end,
      λ h n. c.loop-x.invariant.2 (omega arith) (Near-cons c.loop-x.next _ c.loop-x.x-index (omega arith) (omega arith) n),
    )

pub returns : goal.returns
returns c = λ h. c.loop-x.invariant.2 h (near_none c.loop-x.next c.args.list.now c.loop-x.x-index (omega arith))
