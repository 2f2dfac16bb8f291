-- `write_list::first_fall` meets its contract: where not all steps rise, a search finds the first that does not. The invariant: no step before
-- rank `i` falls. Assumes nothing.
use mathlib.Core.Path.{refl, sym}
use native.Mathlib.Omega.{arith}
use lib.ListN.{length}
use Rattle.write_list.specs.Faults.{falls}
use Rattle.write_list.proofs.Faults.{first_end, rise_halt}
use Rattle.write_list.proofs.first_fall.Goals as goal

pub returns-then-rises : goal.returns-then-rises
returns-then-rises c = sym (first_end falls c.args.list.now (length c.args.list.now) (c.rises.ensures c.if-rises.true) refl)

pub returns-then-list-i : goal.returns-then-list-i
returns-then-list-i c = sym (rise_halt c.args.list.now c.loop-i.auto.i c.loop-i.invariant (omega arith) c.if-list-i.true)

pub returns : goal.returns
returns c = sym (first_end falls c.args.list.now (length c.args.list.now) (λ k h. c.loop-i.invariant k (omega arith)) refl)
