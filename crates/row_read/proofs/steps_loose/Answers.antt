-- `row_read::steps_loose` meets its contract: the steps of the words from index i on are still to be stored, over what is loose. Assumes nothing.
use mathlib.Core.Path.{◌∙◌}
use native.Mathlib.Omega.{arith}
use Rattle.row_read.proofs.Putting.{running_room, Running_turn, running_Room_rest, running_end}
use Rattle.row_read.proofs.steps_loose.Goals as goal

pub put_loose-k-requires : goal.put_loose-k-requires
put_loose-k-requires c = (omega arith, running_room c.loop-i.invariant (λ j. (c.type_inv.part j).fits) c.as_chunks.result.0.now c.as_chunks.ensures.front (omega arith) c.word_of.result c.word_of.ensures)

pub loop-i-preserved : goal.loop-i-preserved
loop-i-preserved c = Running_turn c.loop-i.invariant (λ j. (c.type_inv.part j).fits) c.as_chunks.result.0.now c.as_chunks.ensures.front (omega arith) c.word_of.result c.word_of.ensures c.put_loose-k.auto.out c.put_loose-k.ensures

pub put_ones-requires : goal.put_ones-requires
put_ones-requires c = running_Room_rest c.loop-i.invariant (λ j. (c.type_inv.part j).fits) c.as_chunks.result.1.now c.as_chunks.ensures.back _ c.as_chunks.ensures.front_len (omega arith) c.last_word.result c.last_word.ensures c.requires.0

pub returns : goal.returns
returns c = running_end c.loop-i.invariant (λ j. (c.type_inv.part j).fits) c.as_chunks.result.1.now c.as_chunks.ensures.back _ c.as_chunks.ensures.front_len (omega arith) c.last_word.result c.last_word.ensures c.put_ones.auto.out c.put_ones.ensures
