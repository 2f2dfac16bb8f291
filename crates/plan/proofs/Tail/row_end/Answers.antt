-- `plan::Tail::row_end` meets its contract: where a row ends at the latest fits. Assumes nothing.
use native.Mathlib.Omega.{arith}
use Rattle.plan.proofs.Ranks.{fits}
use Rattle.plan.proofs.Tail.row_end.Goals as goal

pub overflow_add-top : goal.overflow_add-top
overflow_add-top c = omega (arith, (fits c.args.self.now.ready.listed c.args.self.now.rank (omega arith)).start)
