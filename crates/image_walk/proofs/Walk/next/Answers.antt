-- `Walk::next` meets its contract: by a move within what is loaded, or by a turn. Assumes nothing.
use mathlib.Core.Path.{sym, subst}
use native.Mathlib.Omega.{arith}
use Rattle.rules.specs.Limits.Laws.{largest_coded}
use Rattle.image_walk.specs.declared.Rest.{Rest}
use Rattle.std.specs.Prelude.{None}
use Rattle.image_walk.specs.Turns.{Left, Turned}
use Rattle.image_walk.specs.Inside.Moves.{Moves}
use Rattle.image_walk.proofs.Passing.{pass_to, pass_out, pass_Turned}
use Rattle.image_walk.proofs.Walk.next.Goals as goal
use Rattle.image_walk.proofs.Walk.next.Goals.{After-rest_of, After-turned-r}

-- the move led out of what is loaded
out-After-rest_of : (c : After-rest_of) → Moves c.args.source.payload.now c.args.self None
out-After-rest_of c =
    subst (Moves c.args.source.payload.now c.args.self) c.in-None.is c.moved-m.ensures

-- the move led out of what is loaded
out-After-turned-r : (c : After-turned-r) → Moves c.args.source.payload.now c.args.self None
out-After-turned-r c =
    subst (Moves c.args.source.payload.now c.args.self) c.in-None.is c.moved-m.ensures

pub rest_of-requires : goal.rest_of-requires
rest_of-requires c = (omega (arith, c.requires.1, largest_coded), omega (arith, c.requires.1, (c.requires.0.placed.on c.requires.1).low, largest_coded))

pub turned-r-requires : goal.turned-r-requires
turned-r-requires c = subst (Left c.args.source.image.now c.args.source.payload.now) (sym c.rest_of.ensures) (pass_out c.requires.0 c.requires.1 (out-After-rest_of c) (omega arith))

pub returns-in-Some : goal.returns-in-Some
returns-in-Some c = pass_to c.requires.0 c.requires.1 (subst (Moves c.args.source.payload.now c.args.self) c.in-Some.is c.moved-m.ensures)

pub returns-in-None : goal.returns-in-None
returns-in-None c = pass_Turned c.requires.0 c.requires.1 (out-After-turned-r c)
    (subst (λ (p : Rest). Turned c.args.source.image.now c.args.source.payload.now p c.turned-r.result) c.rest_of.ensures c.turned-r.ensures)
