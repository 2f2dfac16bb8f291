-- `write_list::test` meets its contract: each way out goes by the tests that lead to it. Assumes nothing.
use mathlib.Core.Path.{sym, ap, ◌∙◌}
use Prim.Native.Nat.{ℕ}
use native.Mathlib.Omega.{arith}
use Rattle.std.specs.Prelude.{Err}
use Rattle.rules.specs.Limits.Laws.{most_counted}
use Rattle.rules.specs.Refusals.{step_too_large, not_increasing, refusal}
use Rattle.write_list.proofs.Tests.{test_many, test_above, test_fall, test_none}
use Rattle.write_list.proofs.test.Goals as goal

pub returns-then-n-most_steps : goal.returns-then-n-most_steps
returns-then-n-most_steps c = ap Err c.refuse.ensures ∙ sym (test_many c.args.list.now (omega arith))

pub overflow_cast-above : goal.overflow_cast-above
overflow_cast-above c = omega (arith, most_counted)

pub returns-then-above-n : goal.returns-then-above-n
returns-then-above-n c = ap Err c.refuse-then-above-n.ensures
    ∙ ap (λ (k : ℕ). Err (refusal step_too_large k)) c.first_above-above.ensures
    ∙ sym (test_above c.args.list.now (omega arith) (omega arith))

pub overflow_cast-fall : goal.overflow_cast-fall
overflow_cast-fall c = omega (arith, most_counted)

pub returns-then-fall-n : goal.returns-then-fall-n
returns-then-fall-n c = ap Err c.refuse-then-fall-n.ensures
    ∙ ap (λ (k : ℕ). Err (refusal not_increasing k)) c.first_fall-fall.ensures
    ∙ sym (test_fall c.args.list.now (omega arith) (omega arith) (omega arith))

pub returns : goal.returns
returns c = sym (test_none c.args.list.now (omega arith) (omega arith) (omega arith))
