-- `plan::Tail::bytes` meets its contract: the first block is of codes or a row, whichever leads to fewer bytes. Assumes nothing.
use native.Mathlib.Omega.{arith}
use Rattle.plan.proofs.Ranks.{bytes_step, fits}
use Rattle.plan.proofs.Tail.bytes.Goals as goal

pub overflow_add-result : goal.overflow_add-result
overflow_add-result c = omega (arith, (fits c.args.self.now.ready.listed c.args.self.now.rank (omega arith)).codes)

pub returns : goal.returns
returns c = omega (arith, bytes_step c.args.self.now.list.now c.args.self.now.rank c.args.self.now.within)
