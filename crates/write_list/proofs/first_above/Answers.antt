-- `write_list::first_above` meets its contract. The invariant: no step before rank `i` is above the largest. Assumes nothing.
use mathlib.Core.Path.{refl, sym}
use native.Mathlib.Omega.{arith}
use lib.ListN.{length}
use Rattle.write_list.specs.Faults.{above}
use Rattle.write_list.proofs.Faults.{first_end, small_halt}
use Rattle.write_list.proofs.first_above.Goals as goal

pub returns-then-top-list : goal.returns-then-top-list
returns-then-top-list c = sym (small_halt c.args.list.now c.loop-i.invariant (omega arith) (omega (arith, c.largest_step-top.ensures)))

pub returns : goal.returns
returns c = sym (first_end above c.args.list.now (length c.args.list.now) (λ k h. c.loop-i.invariant k (omega arith)) refl)
