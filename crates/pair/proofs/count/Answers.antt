-- `pair::count` meets its contract: no numbers are lent where windows count. Assumes nothing.
use native.Mathlib.Omega.{arith}
use Rattle.pair.proofs.Holding.{held_none, Held_merged}
use Rattle.pair.proofs.count.Goals as goal

pub returns-then-few-eq0 : goal.returns-then-few-eq0
returns-then-few-eq0 c = held_none c.args.op c.args.first.now c.args.second.now c.args.few.now c.count.ensures (omega (arith, c.if-few-eq0.true))

pub returns : goal.returns
returns c = Held_merged c.args.op c.args.first.now c.args.second.now c.count-2.ensures c.few-1.given
