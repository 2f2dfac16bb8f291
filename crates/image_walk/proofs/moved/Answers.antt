-- `image_walk::moved` meets its contract: by a code, or within a word. Assumes nothing.
use mathlib.Core.Path.{sym, subst}
use native.Mathlib.Omega.{arith}
use Rattle.rules.specs.Limits.Laws.{largest_coded}
use Rattle.image_walk.specs.Inside.Moves.{Moves}
use Rattle.image_walk.proofs.Passing.{bit_Moves}
use Rattle.image_walk.proofs.moved.Goals as goal

pub next_bit-requires : goal.next_bit-requires
next_bit-requires c = (omega arith, omega (arith, (c.requires.0.on c.requires.1).low, c.requires.1, largest_coded))

pub returns : goal.returns
returns c = subst (Moves c.args.payload.now c.args.w) (sym c.next_bit.ensures)
    (bit_Moves c.args.payload.now c.args.w c.requires.0 c.if-w-eq0.false (omega arith))
