-- `pair_thin::store` meets its contract: there is room. Assumes nothing.
use native.Mathlib.Omega.{arith}
use Rattle.pair_thin.proofs.store.Goals as goal

pub returns : goal.returns
returns c = (c.count.ensures.counted, c.count.ensures.kept (omega (arith, c.count.ensures.counted, c.requires.second_in_bounds)))
