-- `write_list::small_below` meets its contract: the steps before the first fall are at most the last of them. Assumes nothing.
use native.Mathlib.Omega.{arith}
use Rattle.write_list.specs.Faults.{falls}
use Rattle.write_list.specs.Inside.Passed.{Passed}
use Rattle.write_list.proofs.Faults.{first_le, first_below, small_below}
use Rattle.write_list.proofs.small_below.Goals as goal

pub offset_bounds-list-fall : goal.offset_bounds-list-fall
offset_bounds-list-fall c = omega (arith, first_le falls 0 c.args.list.now)

pub bounds-list-fall : goal.bounds-list-fall
bounds-list-fall c = omega (arith, first_le falls 0 c.args.list.now)

pub returns : goal.returns
returns c = let p : Passed falls c.args.list.now c.args.fall = rw c.requires (first_below falls c.args.list.now) in
    (omega (arith, first_le falls 0 c.args.list.now), small_below c.args.list.now c.args.fall p (omega arith))
