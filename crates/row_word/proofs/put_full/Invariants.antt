-- `row_word::put_full` meets its contract: the bits from place j on are still to be stored. Assumes nothing.
use Prim.Native.Nat.{◌+◌, ◌-◌, ◌^◌}
use Rattle.lists.proofs.Stores.{Storing}
use Rattle.row.specs.Row.{bits_from}
use Rattle.row.specs.Words.{word_bits}
use Rattle.row_word.proofs.put_full.Given as goal

abbrev pub invariant-loop-j : goal.invariant-loop-j
invariant-loop-j l =
    Storing l.initial.out l.at (bits_from word_bits l.from (2 ^ word_bits - 1)) l.out (l.at + l.j) (bits_from (word_bits - l.j) (l.from + l.j) (2 ^ (word_bits - l.j) - 1))
