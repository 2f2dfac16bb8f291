-- `pair::counted` meets its contract: it lends a buffer. Assumes nothing.
use Rattle.pair.proofs.Holding.{length_lent}
use Rattle.pair.proofs.counted.Goals as goal

pub slice_bounds-counted_with-end : goal.slice_bounds-counted_with-end
slice_bounds-counted_with-end c = length_lent c.lent-k.result _ c.lent-k.ensures
