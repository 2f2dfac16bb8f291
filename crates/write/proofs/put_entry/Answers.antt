-- `write::put_entry` meets its contract: the byte and the three numbers are stored one after the other. Assumes nothing.
use native.Mathlib.Omega.{arith}
use lib.ListN.{length-set}
use Rattle.write.proofs.Parts.{entry_stored}
use Rattle.write.proofs.put_entry.Goals as goal

pub put_number-requires : goal.put_number-requires
put_number-requires c = simp length-set (omega arith)

pub put_number-requires-2 : goal.put_number-requires-2
put_number-requires-2 c = omega (arith, length-set c.args.out.now c.args.at c.args.e.kind)

pub put_number-requires-3 : goal.put_number-requires-3
put_number-requires-3 c = omega (arith, length-set c.args.out.now c.args.at c.args.e.kind)

pub shape_of-out : goal.shape_of-out
shape_of-out c = omega (arith, length-set c.args.out.now c.args.at c.args.e.kind)

pub returns : goal.returns
returns c = entry_stored c.args.out.now c.args.at c.args.e c.requires.0 c.put_number.ensures c.put_number-2.ensures
    c.put_number-3.ensures
