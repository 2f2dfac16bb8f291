-- `image_walk::current` meets its contract: what is left of the open block, the next block, or nothing. Assumes nothing.
use native.Mathlib.Omega.{arith}
use Rattle.image_walk.proofs.Entering.{Current_over, Current_next}
use Rattle.image_walk.proofs.current.Goals as goal

pub returns-then-p-source : goal.returns-then-p-source
returns-then-p-source c = Current_over c.requires (omega arith) c.if-p-source.true

pub returns : goal.returns
returns c = Current_next c.requires (omega arith) c.entry-e.result
    c.entry-e.ensures.0 c.if-p-source.false
