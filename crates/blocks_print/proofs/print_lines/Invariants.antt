-- `blocks_print::print_lines` meets its contract: each line that it asks for is that of a block of an accepted image, and so far the lines of
-- the blocks before are printed. Assumes nothing.
use Rattle.std.specs.Io.KnownBytes.{Appends}
use Rattle.blocks_print.specs.Text.{lines_text}
use Rattle.blocks_print.proofs.print_lines.Given as goal

abbrev pub invariant-loop-i : goal.invariant-loop-i
invariant-loop-i g l =
    Appends (g.W.Write.contents l.fn.out) (g.W.Write.contents l.out) (lines_text l.image l.i)
