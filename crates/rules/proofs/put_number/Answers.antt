-- `rules::put_number` meets its contract: the library's bytes of a number are those of document 01. Assumes nothing.
use mathlib.Core.Path.{ap, ◌∙◌}
use native.Mathlib.Omega.{arith}
use lib.ListN.{take}
use Rattle.rules.specs.Sizes.{number_size}
use Rattle.rules.proofs.Numbers.{number_bytes_eight, put_run, length_little}
use Rattle.rules.proofs.put_number.Goals as goal

pub returns : goal.returns
returns c = put_run c.args.out.now c.args.at _ c.copy_from_slice.new.self _ (c.copy_from_slice.ensures.after ∙ ap (take number_size) c.to_le_bytes.ensures ∙ number_bytes_eight c.args.n) (omega (arith, length_little number_size c.args.n)) (omega (arith, length_little number_size c.args.n))
