-- `row::step_from` meets its contract: the step looked for is the one at index `left` of the row from byte i on. Assumes nothing.
use Rattle.row.specs.Row.{row_steps}
use Rattle.row.proofs.Row.{row_left}
use Rattle.row.proofs.Seeking.{Seeking}
use Rattle.row.proofs.step_from.Given as goal

abbrev pub invariant-loop-i : goal.invariant-loop-i
invariant-loop-i l = Seeking (row_steps l.from l.part) l.k (row_left l.from l.part l.i) l.left
