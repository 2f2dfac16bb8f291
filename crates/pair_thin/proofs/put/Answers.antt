-- `pair_thin::put` meets its contract: the numbers from `i` on are left to store. Assumes nothing.
use mathlib.Core.Path.{◌≡◌, refl}
use mathlib.Core.List.{[], ◌∷◌}
use Prim.Native.Nat.{◌+◌}
use native.Mathlib.Omega.{arith}
use lib.ListN.{get_or, drop, drop_of_length-le}
use Rattle.lists.proofs.Parts.{drop_one}
use Rattle.lists.proofs.Stores.{Storing_start, Storing_run, storing_end}
use Rattle.pair_thin.proofs.put.Goals as goal

pub loop-i-init : goal.loop-i-init
loop-i-init c = let here : c.args.at + 0 ≡ c.args.at = omega arith in
    rw here (Storing_start c.args.steps.now c.args.at c.args.numbers.now (omega arith))

pub loop-i-preserved : goal.loop-i-preserved
loop-i-preserved c =
    Storing_run c.loop-i.invariant (get_or c.args.numbers.now c.loop-i.i 0 ∷ []) (drop (c.loop-i.i + 1) c.args.numbers.now) (drop_one c.args.numbers.now c.loop-i.i 0 (omega arith)) (omega arith) refl

pub returns : goal.returns
returns c h = (storing_end c.loop-i.invariant (drop_of_length-le c.args.numbers.now {i = c.loop-i.i} (omega arith))).stores
