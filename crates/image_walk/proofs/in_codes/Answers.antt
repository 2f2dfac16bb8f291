-- `image_walk::in_codes` meets its contract: no code fails in a block that was checked, so one is read. Assumes nothing.
use mathlib.Core.Path.{sym, ◌∙◌, subst}
use Prim.Native.Nat.{◌+◌, ◌≤◌}
use native.Mathlib.Omega.{arith}
use Rattle.rules.specs.Limits.Laws.{largest_coded}
use Rattle.image_walk.specs.Turns.{coded_walk}
use Rattle.image_walk.specs.Inside.Moves.{Met}
use Rattle.image_walk.proofs.Shapes.{Met_step}
use Rattle.image_walk.proofs.Coding.{code_met, code_good}
use Rattle.image_walk.proofs.in_codes.Goals as goal
use Rattle.image_walk.proofs.in_codes.Goals.{In-Ok}

-- a code was read
code_read : (c : In-Ok) → Met c.args.payload.now c.args.p (coded_walk (c.args.p.next + c.in-Ok.c.value) (c.args.p.at + c.in-Ok.c.next) c.args.p.end c.args.p.block) × (c.args.p.at + c.in-Ok.c.next ≤ c.args.p.end)
code_read c =
    code_met c.args.payload.now c.args.p c.requires.0 c.requires.1.0 c.requires.1.1 c.in-Ok.c.value c.in-Ok.c.next
    (λ i. omega (arith, c.type_inv.payload i)) (sym c.read.ensures ∙ c.in-Ok.is)

pub overflow_add-p : goal.overflow_add-p
overflow_add-p c = omega (arith, Met_step c.args.payload.now c.args.p _ c.requires.0 (code_read (goal.at.overflow_add-p c).In-Ok).0, largest_coded)

pub overflow_add-at : goal.overflow_add-at
overflow_add-at c = omega (arith, (code_read (goal.at.overflow_add-at c).In-Ok).1, c.requires.0.few)

pub returns-in-Ok : goal.returns-in-Ok
returns-in-Ok c = subst (Met c.args.payload.now c.args.p) (sym c.coded.ensures) (code_read (goal.at.returns-in-Ok c).In-Ok).0

pub returns-in-Err : goal.returns-in-Err
returns-in-Err c = let e = sym c.read.ensures ∙ c.in-Err.is in
    absurd (code_good c.args.payload.now c.args.p c.requires.0 c.requires.1.0 c.requires.1.1 _ e)
