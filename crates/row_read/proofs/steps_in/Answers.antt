-- `row_read::steps_in` meets its contract: both ways have the same promise. Assumes nothing.
use native.Mathlib.Omega.{arith}
use Rattle.row.proofs.Row.{length_row_moved}
use Rattle.row_read.proofs.steps_in.Goals as goal

pub overflow_add-n : goal.overflow_add-n
overflow_add-n c = omega (arith, c.count-n.ensures, length_row_moved c.args.from c.args.part.now, c.requires.1)

pub steps_before-requires : goal.steps_before-requires
steps_before-requires c = let n = length_row_moved c.args.from c.args.part.now in
    (omega arith, (omega (arith, c.count-n.ensures, n), omega (arith, c.requires.1)))
