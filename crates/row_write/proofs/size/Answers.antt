-- `row_write::size` meets its contract: the last step is in the last byte. Assumes nothing.
use mathlib.Core.Path.{sym}
use Prim.Native.Nat.{◌-◌}
use native.Mathlib.Omega.{arith}
use lib.ListN.{length}
use Rattle.lists.proofs.Rising.{Rising-length, beyond-last}
use Rattle.row.proofs.Written.{length_row_none, length_row-last}
use Rattle.row_write.proofs.size.Goals as goal

pub returns-then-n-eq0 : goal.returns-then-n-eq0
returns-then-n-eq0 c = let e = length_row_none c.args.from c.args.list.now c.if-n-eq0.true in
    (sym e, omega arith)

pub overflow_sub-result-2 : goal.overflow_sub-result-2
overflow_sub-result-2 c = omega (arith, beyond-last c.args.from c.args.list.now (omega arith), Rising-length c.args.from c.args.list.now c.requires)

pub overflow_cast-result : goal.overflow_cast-result
overflow_cast-result c = omega (arith, c.type_inv.list (length c.args.list.now - 1))

pub overflow_add-result : goal.overflow_add-result
overflow_add-result c = omega (arith, c.type_inv.list (length c.args.list.now - 1))

pub returns : goal.returns
returns c = (sym (length_row-last c.args.from c.args.list.now c.requires (omega arith)), omega (arith, c.type_inv.list (length c.args.list.now - 1)))
