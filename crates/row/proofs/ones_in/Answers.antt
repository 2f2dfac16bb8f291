-- `row::ones_in` meets its contract: the ones counted and those of the words from an index on are all. Assumes nothing.
use native.Mathlib.Omega.{arith}
use Rattle.row.proofs.Words.{length_word, length_rest}
use Rattle.row.proofs.ones_in.Goals as goal

pub loop-word-preserved : goal.loop-word-preserved
loop-word-preserved c = let n = length_word 0 c.args.part.now (λ j. (c.type_inv.part j).fits) c.as_chunks.result.0.now c.as_chunks.ensures.front c.loop-word.word-index (omega arith) c.word_of.result c.word_of.ensures in
    (omega (arith, c.ones-total.ensures.0), omega (arith, c.ones-total.ensures.0))

pub returns : goal.returns
returns c = omega (arith, length_rest 0 c.args.part.now (λ j. (c.type_inv.part j).fits) c.as_chunks.result.1.now c.as_chunks.ensures.back c.loop-word.word-index (omega arith) c.last_word.result c.last_word.ensures, c.ones.ensures.0)
