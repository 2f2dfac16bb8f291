-- `plan::past_at` meets its contract: the step before a rank that is not 0 stands one place before it, and is no larger than steps may be.
-- Assumes nothing.
use Prim.Native.Nat.{◌-◌}
use native.Mathlib.Omega.{arith}
use Rattle.plan.proofs.Ranks.{step_fits}
use Rattle.plan.proofs.past_at.Goals as goal

pub overflow_add-result : goal.overflow_add-result
overflow_add-result c = omega (arith, (step_fits c.requires.0 (c.args.i - 1) (omega arith)).step)
