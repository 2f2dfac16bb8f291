-- `write::put_image` meets its contract: the counts go before the entries and before the payload. Assumes nothing.
use native.Mathlib.Omega.{arith}
use Rattle.write.proofs.Laying.{length_places, image_stored}
use Rattle.write.proofs.put_image.Goals as goal

pub put_number-requires : goal.put_number-requires
put_number-requires c = omega (arith, length_places c.args.list.now c.requires.1)

pub put_blocks-end-requires : goal.put_blocks-end-requires
put_blocks-end-requires c = record { marks = (c.requires.0, c.requires.1); list_in_bounds = omega (arith, length_places c.args.list.now c.requires.1) }

pub put_number-requires-2 : goal.put_number-requires-2
put_number-requires-2 c = omega (arith, length_places c.args.list.now c.requires.1)

pub returns : goal.returns
returns c = image_stored c.args.list.now c.requires.1 c.args.out.now c.requires.2 c.put_number.ensures c.put_blocks-end.ensures
    c.put_number-2.ensures
