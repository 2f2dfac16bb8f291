-- `blocks_print::fill` meets its contract. The invariant: what the reader has lost stands in front of the buffer. Assumes nothing.
use Rattle.std.proofs.Common.{◌≤◌, ◌-◌, length, take}
use Rattle.std.specs.Io.KnownBytes.{Consumes}
use Rattle.blocks_print.proofs.fill.Given as goal

abbrev pub invariant-loop-at : goal.invariant-loop-at
invariant-loop-at g l = (l.at ≤ length l.buffer) × Consumes (g.R.Read.remaining l.fn.from) (g.R.Read.remaining l.from) (take l.at l.buffer)

abbrev pub decreases-loop-at : goal.decreases-loop-at
decreases-loop-at g l = length l.buffer - l.at
