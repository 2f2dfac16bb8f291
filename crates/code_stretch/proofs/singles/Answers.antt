-- `code_stretch::singles` meets its contract: the bytes passed are added, and codes if none has the flag. Assumes nothing.
use mathlib.Core.Path.{◌∙◌}
use Prim.Native.Nat.{◌+◌, ◌-◌}
use native.Mathlib.Omega.{arith}
use lib.ListN.{drop}
use lib.Seq.{get_or-take, get_or-drop}
use Rattle.code_stretch.specs.Inside.Bytewise.{stretch}
use Rattle.code_stretch.proofs.Runs.{Singles_turn, Singles_end}
use Rattle.code_stretch.proofs.singles.Goals as goal

pub loop-a-preserved : goal.loop-a-preserved
loop-a-preserved c =
    let s = c.args.s.now in
    let at = c.args.at in
    let k = c.loop-a.a-index in
    let is = get_or-take (at + stretch - at) (drop at s) k 0 (omega arith) ∙ get_or-drop at s k 0 in
    Singles_turn k c.loop-a.invariant (omega arith) is (omega (arith, c.type_inv.s (at + k), is)) (omega arith, omega arith)

pub returns-then-largest-lt-HIGH : goal.returns-then-largest-lt-HIGH
returns-then-largest-lt-HIGH c = Singles_end stretch c.loop-a.invariant (omega arith) c.if-largest-lt-HIGH.true (omega arith)
