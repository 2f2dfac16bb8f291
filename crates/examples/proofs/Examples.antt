-- Document 01's examples hold: the definitions compute what the table says.
-- Assumes nothing.
use mathlib.Core.Path.{◌≡◌, refl}
use Rattle.lists.specs.Members.{has}
use Rattle.rules.specs.Limits.Values.{largest_step, most_steps}
use Rattle.rules.specs.Numbers.{little, little_bytes}
use Rattle.cut.specs.BestCut.{fewest, best_cuts, best_cut}
use Rattle.code.specs.Code.Open.{code_of, more, first, read_at}
use Rattle.codes.specs.Codes.{after, run, values_from, codes_for}
use Rattle.row.specs.Row.{bits_from, row_steps, bits_of, bytes_from, row_of}
use Rattle.image.specs.Entry.{entry_at}
use Rattle.image.specs.Grammar.{image_of}
use Rattle.image.specs.Block.{in_row, judged, block_of}
use Rattle.image.specs.Verdict.{fault_of, verdict}
use Rattle.write_list.specs.Faults.{first_of}
use Rattle.write.specs.Written.{image_for}
use Rattle.pair_operation.specs.Result.{sieve, result_of}
use Rattle.examples.specs.Table.{computed, stated, table}

-- EACH QUESTION HAS THE ANSWER BESIDE IT
pub examples_hold : computed table ≡ stated table
unfolding has largest_step most_steps little little_bytes fewest best_cuts best_cut code_of more first read_at after run values_from codes_for
    bits_from row_steps bits_of bytes_from row_of entry_at image_of in_row judged block_of fault_of verdict image_for first_of sieve result_of
examples_hold = refl
