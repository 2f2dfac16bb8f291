-- `pair_lay::single_at` meets its contract: by the code of one byte, where a byte is left. Assumes nothing.
use native.Mathlib.Omega.{arith}
use Rattle.pair_lay.proofs.single_at.Goals as goal

pub slice_bounds-single-end : goal.slice_bounds-single-end
slice_bounds-single-end c = c.requires (omega (arith, c.if-end-at.false))
