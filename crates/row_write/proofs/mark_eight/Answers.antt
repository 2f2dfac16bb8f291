-- `row_write::mark_eight` meets its contract: each of the two ways has the same promise. Assumes nothing.
use Prim.Native.Nat.{◌+◌}
use native.Mathlib.Omega.{arith}
use Rattle.row_write.proofs.mark_eight.Goals as goal

pub overflow_cast-last : goal.overflow_cast-last
overflow_cast-last c = omega (arith, (c.type_inv.list (c.args.i + 7)).fits)

pub overflow_cast-list : goal.overflow_cast-list
overflow_cast-list c = omega (arith, (c.type_inv.list c.args.i).fits)

pub overflow_add-list : goal.overflow_add-list
overflow_add-list c = omega (arith, (c.type_inv.list c.args.i).fits)
