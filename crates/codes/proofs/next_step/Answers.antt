-- `codes::next_step` meets its contract: in a block that was checked no code fails. Assumes nothing.
use mathlib.Core.Path.{sym, ◌∙◌}
use Prim.Native.Nat.{◌+◌}
use native.Mathlib.Omega.{arith}
use Rattle.codes.specs.Inside.Turn.{Turn}
use Rattle.codes.proofs.Turns.{turn, turn_bad}
use Rattle.codes.proofs.next_step.Goals as goal
use Rattle.codes.proofs.next_step.Goals.{In-Ok}

-- a code was read
turned : (c : In-Ok) → Turn c.args.next c.args.part.now c.args.at (c.args.next + c.in-Ok.c.value) c.in-Ok.c.next
turned c =
    turn c.args.next c.args.part.now c.args.at c.requires.0 c.in-Ok.c.value c.in-Ok.c.next
    (λ i. omega (arith, c.type_inv.part i)) (sym c.read.ensures ∙ c.in-Ok.is)

pub overflow_add-result : goal.overflow_add-result
overflow_add-result c = omega (arith, (turned (goal.at.overflow_add-result c).In-Ok).fits)

pub returns-in-Ok : goal.returns-in-Ok
returns-in-Ok c = turned (goal.at.returns-in-Ok c).In-Ok

pub returns-in-Err : goal.returns-in-Err
returns-in-Err c = let e = sym c.read.ensures ∙ c.in-Err.is in
    absurd (turn_bad c.args.next c.args.part.now c.args.at c.requires.0 _ c.requires.1 e)
