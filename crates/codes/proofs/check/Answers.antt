-- `codes::check` meets its contract, by what is known of the codes that are passed. Assumes nothing.
use mathlib.Core.Path.{◌∙◌}
use Prim.Native.Nat.{◌+◌, ◌*◌, ◌≤◌}
use native.Mathlib.Omega.{arith}
use Rattle.lists.specs.Bytes.{Bytes}
use Rattle.code.specs.Code.{code_values}
use Rattle.codes.proofs.Passing.{passed_few, passed_tally}
use Rattle.codes.proofs.check.Goals as goal
use Rattle.codes.proofs.check.Goals.{In-Some}

bytes : (c : In-Some) → Bytes c.args.part.now
bytes c = λ i. omega (arith, c.type_inv.part i)

few : (c : In-Some) → (c.loop-t.at + c.in-Some.t.count ≤ c.in-Some.t.after) × (c.in-Some.t.value + c.in-Some.t.count + c.loop-t.at * code_values ≤ c.in-Some.t.after * code_values)
few c = passed_few (bytes c) c.in-Some.ensures.1

pub overflow_add-count : goal.overflow_add-count
overflow_add-count c = omega (arith, few (goal.at.overflow_add-count c).In-Some, c.in-Some.ensures.1.within)

pub overflow_add-next : goal.overflow_add-next
overflow_add-next c = omega (arith, few (goal.at.overflow_add-next c).In-Some, c.in-Some.ensures.1.within)

pub overflow_add-next-in-Some : goal.overflow_add-next-in-Some
overflow_add-next-in-Some c = omega (arith, few (goal.at.overflow_add-next-in-Some c).In-Some, c.in-Some.ensures.1.within)

pub loop-t-preserved : goal.loop-t-preserved
loop-t-preserved c =
    let i = (goal.at.loop-t-preserved c).In-Some in
    let p = c.in-Some.ensures.1 in (
      p.within,
      c.loop-t.invariant.1 ∙ passed_tally (bytes i) p c.loop-t.count c.loop-t.next,
      omega (arith, few i),
      omega (arith, few i),
    )
