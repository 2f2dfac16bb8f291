-- `image_walk::turned` meets its contract: a step is met in the open block, or nothing is left. Assumes nothing.
use mathlib.Core.Path.{sym, subst}
use native.Mathlib.Omega.{arith}
use Rattle.image_walk.specs.Turns.{Turned}
use Rattle.image_walk.proofs.Turning.{Turned-Met, Turned_over}
use Rattle.image_walk.proofs.turned.Goals as goal

pub returns-then-q : goal.returns-then-q
returns-then-q c = Turned-Met c.current-q.ensures c.inside.ensures

pub returns : goal.returns
returns c = subst (Turned c.args.source.image.now c.args.source.payload.now c.args.p) (sym c.coded.ensures)
    (Turned_over c.current-q.ensures c.no_step.result c.no_step.ensures (omega arith))
