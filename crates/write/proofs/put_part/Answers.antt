-- `write::put_part` meets its contract: a part is stored by its kind. Assumes nothing.
use mathlib.Core.Path.{◌≡◌, ap}
use Prim.Native.Nat.{◌%◌}
use native.Mathlib.Omega.{arith}
use lib.ListN.{length}
use Rattle.cut.specs.Cut.{codes, row, kind_of}
use Rattle.write.proofs.Parts.{Rising_within, beyond_within, part_within}
use Rattle.write.proofs.put_part.Goals as goal

pub put-requires : goal.put-requires
put-requires c =
    let zero : c.args.word.number % 2 ≡ 0 = omega (arith, c.kind.ensures, c.if-kind-eq-CODES.true) in
    let q = part_within c.args.list.now c.args.i c.args.word.number codes (ap kind_of zero) c.past_at-from.ensures in
    rw c.upto-upto.ensures (
      Rising_within c.args.list.now c.args.i c.args.word.number c.requires.0 c.past_at-from.ensures,
      (beyond_within c.args.list.now c.args.i c.args.word.number c.requires.0 c.past_at-from.ensures, omega (arith, c.requires.1, ap length q)),
    )

pub put-requires-2 : goal.put-requires-2
put-requires-2 c =
    let one : c.args.word.number % 2 ≡ 1 = omega (arith, c.kind.ensures, c.if-kind-eq-CODES.false) in
    let q = part_within c.args.list.now c.args.i c.args.word.number row (ap kind_of one) c.past_at-from.ensures in
    rw c.upto-upto.ensures (
      Rising_within c.args.list.now c.args.i c.args.word.number c.requires.0 c.past_at-from.ensures,
      omega (arith, c.requires.1, ap length q),
    )
