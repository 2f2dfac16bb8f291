-- `blocks_print::list` meets its contract: it asks for lines only of an accepted image, and for as many as that has blocks. Assumes nothing.
use Rattle.blocks_lines.proofs.FirstLine.{contents_taken}
use Rattle.blocks_print.proofs.list.Goals as goal

pub print_lines-requires : goal.print_lines-requires
print_lines-requires g c = contents_taken c.args.image.now c.contents_of.ensures c.in-Ok.is
