-- `row::step_at` meets its contract: the step looked for is the one at index `left` of the row from word i on. Assumes nothing.
use mathlib.Core.Path.{sym, ◌∙◌}
use native.Mathlib.Omega.{arith}
use Rattle.row.proofs.Seeking.{Seeking_word_here, Seeking_word_past}
use Rattle.row.proofs.step_at.Goals as goal

pub step_from-requires : goal.step_from-requires
step_from-requires c = (omega arith, (omega arith, (Seeking_word_here c.args.from c.args.part.now c.loop-i.invariant (λ j. (c.type_inv.part j).fits) c.as_chunks.result.0.now c.as_chunks.ensures.front (omega arith) c.word_of.result c.ones-n.result c.word_of.ensures c.ones-n.ensures.0 c.if-left-n.true).within))

pub returns-then-left-n : goal.returns-then-left-n
returns-then-left-n c = c.step_from.ensures ∙ sym (Seeking_word_here c.args.from c.args.part.now c.loop-i.invariant (λ j. (c.type_inv.part j).fits) c.as_chunks.result.0.now c.as_chunks.ensures.front (omega arith) c.word_of.result c.ones-n.result c.word_of.ensures c.ones-n.ensures.0 c.if-left-n.true).is

pub loop-i-preserved : goal.loop-i-preserved
loop-i-preserved c = Seeking_word_past c.args.from c.args.part.now c.loop-i.invariant (λ j. (c.type_inv.part j).fits) c.as_chunks.result.0.now c.as_chunks.ensures.front (omega arith) c.word_of.result c.ones-n.result c.word_of.ensures c.ones-n.ensures.0 c.if-left-n.false
