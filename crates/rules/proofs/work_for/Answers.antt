-- `rules::work_for` meets its contract: there are few enough steps that nothing wraps. Assumes nothing.
use native.Mathlib.Omega.{arith}
use Rattle.rules.specs.Limits.Laws.{most_counted}
use Rattle.rules.proofs.work_for.Goals as goal

pub overflow_add-result : goal.overflow_add-result
overflow_add-result c = omega (arith, most_counted)

pub overflow_mul-result : goal.overflow_mul-result
overflow_mul-result c = omega (arith, most_counted)
