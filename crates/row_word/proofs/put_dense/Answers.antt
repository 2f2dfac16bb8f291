-- `row_word::put_dense` meets its contract: both ways have the same promise. Assumes nothing.
use native.Mathlib.Omega.{arith}
use Rattle.row.specs.Words.{word_bits}
use Rattle.row.proofs.Bits.{length_bits_moved}
use Rattle.row_word.proofs.put_dense.Goals as goal

pub put_many-requires : goal.put_many-requires
put_many-requires c = (omega arith, omega (arith, c.ones.ensures.0, length_bits_moved word_bits c.args.from c.args.word))
