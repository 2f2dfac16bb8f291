-- `row_write::mark_neighbours` meets its contract: the ones from the first step's bit on, and those before the same bit of the next byte, are the
-- marks of all eight. Assumes nothing.
use Prim.Native.Nat.{◌-◌, ◌%◌}
use native.Mathlib.Omega.{arith}
use lib.Pow.{pow_pos}
use lib.ListN.{get_or}
use Rattle.row.specs.Row.{byte_bits}
use Rattle.row_write.proofs.Marking.{mark_from, mark_room, neighbours_room, neighbours_fits, neighbours_room_next, neighbours_fits_next, neighbours_turn}
use Rattle.row_write.proofs.mark_neighbours.Goals as goal

pub overflow_sub-bit : goal.overflow_sub-bit
overflow_sub-bit c = mark_from c.requires.0 _ (omega arith)

pub overflow_cast-bit : goal.overflow_cast-bit
overflow_cast-bit c = omega (arith, (c.type_inv.list c.args.i).fits)

pub overflow_add-at : goal.overflow_add-at
overflow_add-at c = omega (arith, mark_room c.requires.0 c.args.i (omega arith), c.well_formed)

pub add-requires : goal.add-requires
add-requires c = (mark_room c.requires.0 _ (omega arith), neighbours_fits c.requires.0 _ c.requires.1.0 c.requires.1.1 c.one_at-low.ensures.0)

pub overflow_sub-low-2 : goal.overflow_sub-low-2
overflow_sub-low-2 c = omega (arith, c.one_at-low.ensures.0, pow_pos ((get_or c.args.list.now c.args.i 0 - c.args.from) % byte_bits))

pub overflow_add-bit : goal.overflow_add-bit
overflow_add-bit c = omega (arith, (c.type_inv.list c.args.i).fits)

pub overflow_add-at-2 : goal.overflow_add-at-2
overflow_add-at-2 c = omega (arith, neighbours_room c.requires.0 _ c.requires.1.0 c.requires.1.1 c.one_at-low.ensures.0, c.well_formed)

pub add-requires-2 : goal.add-requires-2
add-requires-2 c = (neighbours_room_next c.requires.0 _ c.requires.1.0 c.requires.1.1 c.one_at-low.ensures.0 c.add.ensures, neighbours_fits_next c.requires.0 _ c.requires.1.0 c.requires.1.1 c.one_at-low.ensures.0 c.add.ensures)

pub returns : goal.returns
returns c = neighbours_turn c.requires.0 _ c.requires.1.0 c.requires.1.1 c.one_at-low.ensures.0 c.add.ensures c.add-2.ensures
