-- `row_word::put_loose` meets its contract: what leaves no place loose leaves four at the most. Assumes nothing.
use native.Mathlib.Omega.{arith}
use Rattle.row.specs.Words.{word_bits}
use Rattle.row.proofs.Bits.{beyond_bits}
use Rattle.row_word.proofs.Loosely.{exact_loose}
use Rattle.row_word.proofs.put_loose.Goals as goal

pub put_plain-requires : goal.put_plain-requires
put_plain-requires c = (omega (arith, c.requires.0, beyond_bits word_bits c.args.from c.args.word), omega (arith, c.requires.1))

pub returns-in-Some : goal.returns-in-Some
returns-in-Some c = exact_loose c.in-Some.ensures
