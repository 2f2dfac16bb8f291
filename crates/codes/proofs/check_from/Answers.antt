-- `codes::check_from` meets its contract. The invariant: what is to be found is what is found from `at` on, after `count` steps that end
-- before `next`. A step is below the values of a code for each byte passed, so that no sum wraps. Assumes nothing.
use mathlib.Core.Path.{◌≡◌, refl, sym, ◌∙◌}
use native.Mathlib.Omega.{arith}
use Rattle.std.specs.Prelude.{Ok}
use Rattle.code.specs.Code.{reading, read_at}
use Rattle.code.specs.Code.Read.{Read}
use Rattle.code.proofs.Laws.{read_sound}
use Rattle.codes.proofs.Codes.{Read_passes}
use Rattle.codes.proofs.Turns.{tally_more, tally_bad, tally_end}
use Rattle.codes.proofs.check_from.Goals as goal
use Rattle.codes.proofs.check_from.Goals.{In-Ok}

read_is : (c : In-Ok) → read_at c.args.part.now c.loop-at.at ≡ Ok (reading c.in-Ok.c.value c.in-Ok.c.next)
read_is c = sym c.read.ensures ∙ c.in-Ok.is

read_here : (c : In-Ok) → Read c.args.part.now c.loop-at.at c.in-Ok.c.value c.in-Ok.c.next
read_here c = read_sound _ _ _ _ (λ i. omega (arith, c.type_inv.part i)) (read_is c)

pub loop-at-init : goal.loop-at-init
loop-at-init c = (omega arith, refl, omega arith, omega arith)

pub overflow_add-next : goal.overflow_add-next
overflow_add-next c = omega (arith, (read_here (goal.at.overflow_add-next c).In-Ok).small)

pub overflow_add-next-in-Ok : goal.overflow_add-next-in-Ok
overflow_add-next-in-Ok c = omega (arith, (read_here (goal.at.overflow_add-next-in-Ok c).In-Ok).small)

pub loop-at-smaller : goal.loop-at-smaller
loop-at-smaller c = omega (arith, Read_passes (read_here (goal.at.loop-at-smaller c).In-Ok), (read_here (goal.at.loop-at-smaller c).In-Ok).within)

pub loop-at-preserved : goal.loop-at-preserved
loop-at-preserved c = let r = read_here (goal.at.loop-at-preserved c).In-Ok in
    let p = Read_passes r in (
      r.within,
      c.loop-at.invariant.1 ∙ tally_more c.loop-at.found c.loop-at.next _ c.loop-at.at r (read_is (goal.at.loop-at-preserved c).In-Ok),
      omega (arith, r.small),
      omega arith,
    )

pub returns-in-Err : goal.returns-in-Err
returns-in-Err c = sym
    (c.loop-at.invariant.1
    ∙ tally_bad c.loop-at.found c.loop-at.next c.args.part.now c.loop-at.at c.in-Err.flaw (omega arith)
    (sym c.read.ensures ∙ c.in-Err.is))

pub returns : goal.returns
returns c = sym (c.loop-at.invariant.1 ∙ tally_end c.loop-at.found c.loop-at.next c.args.part.now c.loop-at.at (omega arith))
