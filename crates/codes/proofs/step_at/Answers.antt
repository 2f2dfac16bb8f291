-- `codes::step_at` meets its contract, by what is known of the codes that are passed. Assumes nothing.
use mathlib.Core.Path.{◌∙◌}
use Prim.Native.Nat.{◌+◌}
use native.Mathlib.Omega.{arith}
use Rattle.codes.proofs.Passing.{Skipped, passed_steps, skipped_length, skipped_at}
use Rattle.codes.proofs.step_at.Goals as goal
use Rattle.codes.proofs.step_at.Goals.{In-Some}

skipped : (c : In-Some) → Skipped c.loop-t.next c.args.part.now c.loop-t.at c.in-Some.t.after c.in-Some.t.count (c.loop-t.next + (c.in-Some.t.value + c.in-Some.t.count))
skipped c = passed_steps (λ i. omega (arith, c.type_inv.part i)) c.in-Some.ensures.1 c.loop-t.next c.loop-t.invariant.1

pub overflow_add-next : goal.overflow_add-next
overflow_add-next c = omega (arith, (skipped (goal.at.overflow_add-next c).In-Some).fits)

pub overflow_add-next-in-Some : goal.overflow_add-next-in-Some
overflow_add-next-in-Some c = omega (arith, (skipped (goal.at.overflow_add-next-in-Some c).In-Some).fits)

pub loop-t-preserved : goal.loop-t-preserved
loop-t-preserved c =
    let t = skipped (goal.at.loop-t-preserved c).In-Some in (
      c.in-Some.ensures.1.within,
      t.sound,
      c.loop-t.invariant.2 ∙ skipped_at t c.loop-t.left (omega arith),
      omega (arith, c.loop-t.invariant.3, skipped_length t),
    )
