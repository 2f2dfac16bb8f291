-- `row::kth` meets its contract. The invariant: the one looked for in the byte is the one looked for in the bits that are left.
-- Assumes nothing.
use mathlib.Core.Path.{sym, ◌∙◌}
use native.Mathlib.Omega.{arith}
use Rattle.row.proofs.Places.{kth_start, kth_here, kth_past, kth_end}
use Rattle.row.proofs.kth.Goals as goal

pub loop-at-init : goal.loop-at-init
loop-at-init c = kth_start c.args.byte c.args.k

pub returns-then-left-bit : goal.returns-then-left-bit
returns-then-left-bit c = sym (c.loop-at.invariant ∙ kth_here c.loop-at.at c.loop-at.bits c.loop-at.left (omega arith) c.if-left-bit.true)

pub loop-at-preserved : goal.loop-at-preserved
loop-at-preserved c = c.loop-at.invariant ∙ kth_past c.loop-at.at c.loop-at.bits c.loop-at.left (omega arith) c.if-left-bit.false

pub returns : goal.returns
returns c = sym (c.loop-at.invariant ∙ kth_end c.loop-at.at c.loop-at.bits c.loop-at.left (omega arith))
