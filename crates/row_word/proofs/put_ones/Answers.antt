-- `row_word::put_ones` meets its contract: the ones of the bits that are left are still to be stored. Assumes nothing.
use native.Mathlib.Omega.{arith}
use lib.Count.{trailing_le}
use Rattle.row.specs.Words.{word_bits}
use Rattle.row_word.proofs.Clearing.{Clearing_start, clearing_less, clearing_fits, clearing_room, Clearing_turn, clearing_end}
use Rattle.row_word.proofs.put_ones.Goals as goal

pub loop-bits-init : goal.loop-bits-init
loop-bits-init c = Clearing_start c.args.word c.args.from c.args.out.now c.args.at c.ranges.word.fits c.requires.0 c.requires.1

pub overflow_cast-out : goal.overflow_cast-out
overflow_cast-out c = omega (arith, trailing_le word_bits c.loop-bits.bits)

pub overflow_add-out : goal.overflow_add-out
overflow_add-out c = omega (arith, clearing_fits c.loop-bits.invariant (omega arith))

pub overflow_cast-out-in-loop-bits : goal.overflow_cast-out-in-loop-bits
overflow_cast-out-in-loop-bits c = omega (arith, clearing_fits c.loop-bits.invariant (omega arith))

pub offset_bounds-out-k : goal.offset_bounds-out-k
offset_bounds-out-k c = omega (arith, clearing_room c.loop-bits.invariant (omega arith), c.loop-bits.invariant.storing.same, c.well_formed)

pub bounds-out-k : goal.bounds-out-k
bounds-out-k c = clearing_room c.loop-bits.invariant (omega arith)

pub overflow_add-k : goal.overflow_add-k
overflow_add-k c = omega (arith, clearing_room c.loop-bits.invariant (omega arith), c.loop-bits.invariant.storing.same, c.well_formed)

pub loop-bits-smaller : goal.loop-bits-smaller
loop-bits-smaller c = clearing_less c.loop-bits.invariant (omega arith)

pub loop-bits-preserved : goal.loop-bits-preserved
loop-bits-preserved c = Clearing_turn c.loop-bits.invariant (omega arith)

pub shape_of-out : goal.shape_of-out
shape_of-out c = c.loop-bits.invariant.storing.same

pub returns : goal.returns
returns c = clearing_end c.loop-bits.invariant (omega arith)
