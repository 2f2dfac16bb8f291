-- `codes::first_in` meets its contract, by what is known of the codes that are passed. Assumes nothing.
use mathlib.Core.Path.{◌∙◌}
use Prim.Native.Nat.{◌+◌, ◌≤◌}
use native.Mathlib.Omega.{arith}
use Rattle.codes.proofs.Finding.{Ahead_answer}
use Rattle.codes.proofs.Passing.{passed_few, Skipped, passed_steps, skipped_found}
use Rattle.codes.proofs.first_in.Goals as goal
use Rattle.codes.proofs.first_in.Goals.{In-Some}

skipped : (c : In-Some) → Skipped c.loop-t.next c.args.part.now c.loop-t.at c.in-Some.t.after c.in-Some.t.count (c.loop-t.next + (c.in-Some.t.value + c.in-Some.t.count))
skipped c = passed_steps (λ i. omega (arith, c.type_inv.part i)) c.in-Some.ensures.1 c.loop-t.next c.loop-t.invariant.1

few : (c : In-Some) → c.loop-t.at + c.in-Some.t.count ≤ c.in-Some.t.after
few c = (passed_few (λ i. omega (arith, c.type_inv.part i)) c.in-Some.ensures.1).0

pub overflow_add-beyond : goal.overflow_add-beyond
overflow_add-beyond c = omega (arith, (skipped (goal.at.overflow_add-beyond c).In-Some).fits)

pub overflow_add-beyond-in-Some : goal.overflow_add-beyond-in-Some
overflow_add-beyond-in-Some c = omega (arith, (skipped (goal.at.overflow_add-beyond-in-Some c).In-Some).fits)

pub overflow_add-index : goal.overflow_add-index
overflow_add-index c = omega (arith, few (goal.at.overflow_add-index c).In-Some, c.in-Some.ensures.1.within)

pub loop-t-preserved : goal.loop-t-preserved
loop-t-preserved c =
    let i = (goal.at.loop-t-preserved c).In-Some in
    let t = skipped i in (
      c.in-Some.ensures.1.within,
      t.sound,
      record {
        rank = omega (arith, c.loop-t.invariant.2.rank, t.under c.args.x (omega arith));
        found = c.loop-t.invariant.2.found ∙ skipped_found t c.args.x (omega arith);
      },
      omega (arith, c.loop-t.invariant.3, few i),
    )

pub returns : goal.returns
returns c = Ahead_answer c.loop-t.invariant.2 c.first_from.ensures
