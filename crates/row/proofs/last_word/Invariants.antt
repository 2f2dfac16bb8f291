-- `row::last_word` meets its contract. The invariant: the word is the number of the bytes that were read, from the last one on.
-- Assumes nothing.
use Rattle.std.specs.Slice.Iter.{iter_rest}
use Rattle.std.specs.Iterator.Adapters.{rev_source}
use Rattle.row.proofs.Words.{Back}
use Rattle.row.proofs.last_word.Given as goal

abbrev pub invariant-loop-byte : goal.invariant-loop-byte
invariant-loop-byte l = Back l.s (iter_rest (rev_source l.byte-iterator)) l.word
