-- `pair::store` meets its contract: what is held is copied, and else both ways of storing have one contract. Assumes nothing.
use native.Mathlib.Omega.{arith}
use Rattle.pair.proofs.Holding.{length_lent, Held_copied}
use Rattle.pair.proofs.store.Goals as goal

pub returns-then-n-few : goal.returns-then-n-few
returns-then-n-few c = Held_copied c.args.op c.args.first.now c.args.second.now c.requires.taken.1 c.if-n-few.true c.args.steps.now c.requires.second_in_bounds
    (c.put.ensures (omega (arith, c.requires.taken.1.counted, c.requires.second_in_bounds, length_lent c.args.n c.args.few.now c.if-n-few.true)))
