-- `codes_write::put_some` meets its contract: what is written is the first part of what is left. Assumes nothing.
use Prim.Native.Nat.{ℕ, ◌+◌, ◌<◌, ◌≤◌}
use native.Mathlib.Omega.{arith}
use lib.ListN.{length}
use Rattle.codes_write.specs.Inside.Groups.{group}
use Rattle.codes_write.proofs.Groups.{Parted, parted}
use Rattle.codes_write.proofs.put_some.Goals as goal
use Rattle.codes_write.proofs.put_some.Goals.{Start}

-- the steps before rank `j` are a part
front : (c : Start) → (j : ℕ) → c.args.i < j → j ≤ length c.args.list.now → Parted c.args.from c.args.list.now c.args.i j
front c j h l = parted c.args.from c.args.list.now c.args.i j h l c.requires.1.0 c.requires.1.1.0

pub largest_gap-requires : goal.largest_gap-requires
largest_gap-requires c = let t = front (goal.at.largest_gap-requires c).Start (c.args.i + group) (omega arith) (omega arith) in
    (t.rising, t.end)

pub put_singles-requires : goal.put_singles-requires
put_singles-requires c = let t = front (goal.at.put_singles-requires c).Start (c.args.i + group) (omega arith) (omega arith) in
    (c.largest_gap.ensures c.if-largest_gap-lt-ONE_GROUP.true, (t.rising, (t.end, omega (arith, t.room, c.requires.1.1.1))))

pub put_each-requires : goal.put_each-requires
put_each-requires c = let t = front (goal.at.put_each-requires c).Start c.min-far.result (omega arith) (omega arith) in
    (t.rising, (t.end, omega (arith, t.room, c.requires.1.1.1)))
