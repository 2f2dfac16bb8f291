-- `plan::Word::new` meets its contract: a list has so few steps that twice its length, and one more, fits 32 bits.
-- Assumes nothing.
use native.Mathlib.Omega.{arith}
use Rattle.rules.specs.Limits.Laws.{most_counted}
use Rattle.plan.proofs.Word.new.Goals as goal

pub overflow_mul-result : goal.overflow_mul-result
overflow_mul-result c = omega (arith, most_counted)

pub overflow_add-result : goal.overflow_add-result
overflow_add-result c = omega (arith, most_counted)

pub overflow_cast-result : goal.overflow_cast-result
overflow_cast-result c = omega (arith, most_counted)
