-- `row_read::steps_exact` meets its contract: the steps of the words from index i on are still to be stored. Assumes nothing.
use mathlib.Core.Path.{◌∙◌}
use native.Mathlib.Omega.{arith}
use Rattle.row_read.proofs.Putting.{putting_room, Putting_turn, putting_Room_rest, putting_end}
use Rattle.row_read.proofs.steps_exact.Goals as goal

pub put_word-k-requires : goal.put_word-k-requires
put_word-k-requires c = putting_room c.loop-i.invariant (λ j. (c.type_inv.part j).fits) c.as_chunks.result.0.now c.as_chunks.ensures.front (omega arith) c.word_of.result c.word_of.ensures c.requires.0

pub loop-i-preserved : goal.loop-i-preserved
loop-i-preserved c = Putting_turn c.loop-i.invariant (λ j. (c.type_inv.part j).fits) c.as_chunks.result.0.now c.as_chunks.ensures.front (omega arith) c.word_of.result c.word_of.ensures c.put_word-k.ensures

pub put_ones-requires : goal.put_ones-requires
put_ones-requires c = putting_Room_rest c.loop-i.invariant (λ j. (c.type_inv.part j).fits) c.as_chunks.result.1.now c.as_chunks.ensures.back _ c.as_chunks.ensures.front_len (omega arith) c.last_word.result c.last_word.ensures c.requires.0

pub returns : goal.returns
returns c = putting_end c.loop-i.invariant (λ j. (c.type_inv.part j).fits) c.as_chunks.result.1.now c.as_chunks.ensures.back _ c.as_chunks.ensures.front_len (omega arith) c.last_word.result c.last_word.ensures c.put_ones.ensures
