-- `row_word::put_plain` meets its contract: both ways have the same promise. Assumes nothing.
use Rattle.row_word.proofs.Clearing.{full_room, full_stored}
use Rattle.row_word.proofs.put_plain.Goals as goal

pub put_full-requires : goal.put_full-requires
put_full-requires c = full_room c.args.word c.args.from c.args.out.now c.args.at c.if-word-eq-FULL.true c.requires.0 c.requires.1

pub returns-then-word-eq-FULL : goal.returns-then-word-eq-FULL
returns-then-word-eq-FULL c = full_stored c.args.word c.args.from c.args.out.now c.args.at c.if-word-eq-FULL.true c.put_full.ensures
