-- `codes::first_in` meets its contract. The invariant: `index` steps were passed, which are below x, and what is looked for is found among
-- those from `at` on.
-- Assumes nothing.
use Prim.Native.Nat.{◌-◌, ◌≤◌}
use lib.ListN.{length}
use Rattle.codes.specs.Codes.{steps_from, list_of, Sound}
use Rattle.codes.proofs.Finding.{Ahead}
use Rattle.codes.proofs.first_in.Given as goal

abbrev pub invariant-loop-t : goal.invariant-loop-t
invariant-loop-t l =
    (l.at ≤ length l.part)
    × Sound l.next (steps_from l.next l.part l.at)
    × Ahead (list_of (steps_from l.from l.part 0)) (list_of (steps_from l.next l.part l.at)) l.x l.index
    × (l.index ≤ l.at)

abbrev pub decreases-loop-t : goal.decreases-loop-t
decreases-loop-t l = length l.part - l.at
