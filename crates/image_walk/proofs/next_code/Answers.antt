-- `image_walk::next_code` meets its contract: a code of one byte is passed at once, and before another all codes are left. Assumes nothing.
use mathlib.Core.Path.{sym, subst}
use native.Mathlib.Omega.{arith}
use Rattle.rules.specs.Limits.Laws.{largest_coded}
use Rattle.image_walk.specs.Inside.Moves.{Slid}
use Rattle.image_walk.proofs.Passing.{code_out, code_next}
use Rattle.image_walk.proofs.next_code.Goals as goal

pub overflow_add-w : goal.overflow_add-w
overflow_add-w c = omega (arith, c.requires.1.1, largest_coded)

pub overflow_add-w-in-Some : goal.overflow_add-w-in-Some
overflow_add-w-in-Some c = omega (arith, c.requires.1.1, largest_coded, c.in-Some.ensures.0)

pub returns-in-Some : goal.returns-in-Some
returns-in-Some c = subst (Slid c.args.payload.now c.args.w) (sym c.coded.ensures)
    (code_next c.args.payload.now c.args.w c.requires.0 c.requires.1.0 c.if-at-end.true c.in-Some.gap 1
    (λ i. omega (arith, c.type_inv.payload i)) c.in-Some.ensures.1)

pub returns-in_default : goal.returns-in_default
returns-in_default c = code_out c.args.payload.now c.args.w c.requires.0 c.requires.1.0

pub returns-else-at-end : goal.returns-else-at-end
returns-else-at-end c = code_out c.args.payload.now c.args.w c.requires.0 c.requires.1.0
