-- `pair_thin::turns` meets its contract: each turn of the loop, and the last one after it, is a turn of `Turning`. Assumes nothing.
use mathlib.Core.Path.{◌≡◌}
use Prim.Native.Nat.{◌+◌}
use native.Mathlib.Omega.{arith}
use lib.Dec.{leb}
use lib.ListN.{get_or}
use Rattle.lists.specs.Choice.{pick}
use Rattle.pair_thin.proofs.Turning.{Going_turn, going_end}
use Rattle.pair_thin.proofs.turns.Goals as goal
use Rattle.pair_thin.proofs.turns.Goals.{then-in_left, else-in_left, then-in_right, else-in_right}

pub loop-preserved : goal.loop-preserved
loop-preserved c =
    let x : c.if-in_left.x ≡ pick (leb c.loop.x c.loop.y) (get_or c.args.left.now (c.loop.i + 1) 0) c.loop.x =
    elim c.if-in_left.branch [ then-in_left w ↦ grind arith | else-in_left w ↦ grind arith ] in
    let y : c.if-in_right.y ≡ pick (leb c.loop.y c.loop.x) (get_or c.args.right.now (c.loop.j + 1) 0) c.loop.y =
    elim c.if-in_right.branch [ then-in_right w ↦ grind arith | else-in_right w ↦ grind arith ] in
    rw (c.from-i.ensures, c.from-j.ensures, c.from-k.ensures)
    (omega arith, Going_turn c.loop.invariant.1 (omega arith) (omega arith) c.requires.1.1.0 _ _ c.keeps.ensures c.min.ensures x y)

pub returns : goal.returns
returns c = rw (c.from.ensures, c.from-2.ensures, c.from-k-2.ensures)
    (going_end c.loop.invariant.1 (omega arith) (omega arith) c.requires.1.1.0 _ _ c.keeps-2.ensures c.min-2.ensures)
