-- `codes_write::put` meets its contract. The invariant: the codes have been stored, but for those of the steps from rank `i` on, which go to
-- the place `p`. Assumes nothing.
use mathlib.Core.Path.{◌∙◌}
use Prim.Native.Nat.{◌+◌, ◌≤◌}
use native.Mathlib.Omega.{arith}
use Rattle.lists.specs.Parts.{part}
use Rattle.lists.proofs.Stores.{Storing_run}
use Rattle.codes.specs.Codes.{codes_for}
use Rattle.codes_write.proofs.Groups.{Parted, parted}
use Rattle.codes_write.proofs.put.Goals as goal
use Rattle.codes_write.proofs.put.Goals.{After-shared_slice_known-in-loop-i-1}

-- a part of what was left was written
wrote : (c : After-shared_slice_known-in-loop-i-1) → Parted c.loop-i.next c.args.list.now c.loop-i.i c.put_some-t.result.upto
wrote c =
    parted c.loop-i.next c.args.list.now c.loop-i.i c.put_some-t.result.upto c.put_some-t.ensures.0.0 c.put_some-t.ensures.0.1
    c.loop-i.invariant.2 c.loop-i.invariant.3

pub overflow_add-next : goal.overflow_add-next
overflow_add-next c = omega (arith, (wrote c).small)

pub loop-i-preserved : goal.loop-i-preserved
loop-i-preserved c = let w = wrote c in
    let us = codes_for c.loop-i.next (part c.args.list.now c.loop-i.i c.put_some-t.result.upto) in
    (c.put_some-t.ensures.0.1, Storing_run c.loop-i.invariant.1 us _ w.codes c.put_some-t.ensures.1.place c.put_some-t.ensures.1.stores, w.rising_left, w.end_left)
