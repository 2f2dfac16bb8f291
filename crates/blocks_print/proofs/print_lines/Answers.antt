-- `blocks_print::print_lines` meets its contract: each line is printed after those before. Assumes nothing.
use Rattle.blocks_print.proofs.Lines.{lines_next}
use Rattle.blocks_print.proofs.print_lines.Goals as goal

pub loop-i-preserved : goal.loop-i-preserved
loop-i-preserved g c =
    lines_next c.args.image.now c.loop-i.i _ _ _ c.line_at-line.result c.line_at-line.ensures c.loop-i.invariant c.in_ok-writeln.ensures.bytes
