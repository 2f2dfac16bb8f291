-- `pair_lay_row::past_word` meets its contract: there are 64 zeros at the most above the highest one. Assumes nothing.
use native.Mathlib.Omega.{arith}
use lib.Count.{leading_le}
use Rattle.row.specs.Words.{word_bits}
use Rattle.pair_lay_row.proofs.past_word.Goals as goal

pub overflow_cast-result : goal.overflow_cast-result
overflow_cast-result c = omega (arith, leading_le word_bits c.args.w.bits)

pub overflow_sub-result : goal.overflow_sub-result
overflow_sub-result c = omega (arith, leading_le word_bits c.args.w.bits)
