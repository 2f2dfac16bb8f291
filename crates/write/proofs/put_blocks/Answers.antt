-- `write::put_blocks` meets its contract. The invariant: the entries and the parts of the blocks that begin before rank `i` are stored.
-- Assumes nothing.
use native.Mathlib.Omega.{arith}
use Rattle.plan.specs.Planned.{cut_of}
use Rattle.write.proofs.Laying.{laying_start, Laying_next, laying_turn, laying_end}
use Rattle.write.proofs.put_blocks.Goals as goal

pub loop-i-init : goal.loop-i-init
loop-i-init c = (cut_of c.args.list.now, laying_start c.requires.marks.0 c.requires.marks.1 c.requires.list_in_bounds)

pub put_block-p-requires : goal.put_block-p-requires
put_block-p-requires c = let t = Laying_next c.loop-i.invariant.1 (omega arith) in
    record { within = (t.within, t.entry, t.laying.low); word_in_bounds = t.part }

pub loop-i-smaller : goal.loop-i-smaller
loop-i-smaller c = let w = (Laying_next c.loop-i.invariant.1 (omega arith)).within in
    omega (arith, w.after, w.inside, c.upto-i.ensures)

pub loop-i-preserved : goal.loop-i-preserved
loop-i-preserved c = let t = Laying_next c.loop-i.invariant.1 (omega arith) in
    rw c.upto-i.ensures (t.rest, laying_turn t c.put_block-p.ensures)

pub returns : goal.returns
returns c = laying_end c.loop-i.invariant.1 c.loop-i-test.false
