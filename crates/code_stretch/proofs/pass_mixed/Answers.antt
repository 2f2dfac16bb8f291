-- `code_stretch::pass_mixed` meets its contract: what the two parts of a stretch add up to is what its codes do. Assumes nothing.
use native.Mathlib.Omega.{arith}
use Rattle.code_stretch.proofs.Runs.{Passed_parts}
use Rattle.code_stretch.proofs.pass_mixed.Goals as goal

pub returns-then-framed : goal.returns-then-framed
returns-then-framed c = (
  omega arith,
  Passed_parts c.tally-most.ensures c.tally-rest.ensures (omega arith) (omega arith) (omega arith) (omega arith)
      (c.framed.ensures c.if-framed.true),
)
