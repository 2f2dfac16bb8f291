-- `row::below_in` meets its contract: the whole bytes before the bound have their ones below it, and its own byte has those of its lowest bits.
-- Assumes nothing.
use Prim.Native.Nat.{◌-◌, ◌/◌}
use native.Mathlib.Omega.{arith}
use lib.ListN.{take}
use lib.Seq.{length-take-le}
use Rattle.lists.proofs.Rising.{Rising-length}
use Rattle.row.specs.Row.{byte_bits, row_steps}
use Rattle.row.proofs.Row.{Rising_row, beyond_row_most}
use Rattle.row.proofs.Places.{below_whole}
use Rattle.row.proofs.below_in.Goals as goal

pub overflow_add-result : goal.overflow_add-result
overflow_add-result c = let whole = take ((c.args.x - c.args.from) / byte_bits) c.args.part.now in
    omega (
      arith,
      c.ones_in.ensures,
      length-take-le ((c.args.x - c.args.from) / byte_bits) c.args.part.now (omega arith),
      Rising-length 0 (row_steps 0 whole) (Rising_row 0 whole),
      beyond_row_most 0 whole,
    )

pub returns : goal.returns
returns c = below_whole c.args.from c.args.part.now c.args.x (omega arith) _ _ (omega arith) c.ones_in.ensures c.ones_under.ensures.0
