-- `row::ones_in` meets its contract: the ones counted and those of the words from an index on are all. Assumes nothing.
use mathlib.Core.Path.{◌≡◌}
use Prim.Native.Nat.{◌+◌, ◌*◌, ◌≤◌}
use lib.ListN.{length}
use Rattle.row.specs.Row.{row_steps}
use Rattle.row.specs.Words.{word_bits}
use Rattle.row.proofs.Words.{words_left}
use Rattle.row.proofs.ones_in.Given as goal

abbrev pub invariant-loop-word : goal.invariant-loop-word
invariant-loop-word l = (l.total ≤ word_bits * l.word-index) × (length (row_steps 0 l.part) ≡ l.total + length (words_left 0 l.part l.word-index))
