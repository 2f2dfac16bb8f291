-- `row::ones` meets its contract: the machine's count of ones is the number of ones among the bits. Assumes nothing.
use native.Mathlib.Omega.{arith}
use Rattle.row.specs.Words.{word_bits}
use Rattle.row.proofs.Bits.{ones_bits, length_bits_most}
use Rattle.row.proofs.ones.Goals as goal

pub returns : goal.returns
returns c = let e = ones_bits word_bits 0 c.args.word c.ranges.word.fits in
    (e, omega (arith, length_bits_most word_bits 0 c.args.word))
