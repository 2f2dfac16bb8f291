-- `codes::step_at` meets its contract. The invariant: the step asked for is the one at index `left` of the steps from `at` on.
-- Assumes nothing.
use mathlib.Core.Path.{◌≡◌}
use Prim.Native.Nat.{◌-◌, ◌≤◌, ◌<◌}
use lib.ListN.{length, get_or}
use Rattle.codes.specs.Codes.{steps_from, list_of, Sound}
use Rattle.codes.proofs.step_at.Given as goal

abbrev pub invariant-loop-t : goal.invariant-loop-t
invariant-loop-t l =
    (l.at ≤ length l.part)
    × Sound l.next (steps_from l.next l.part l.at)
    × (get_or (list_of (steps_from l.from l.part 0)) l.k 0 ≡ get_or (list_of (steps_from l.next l.part l.at)) l.left 0)
    × (l.left < length (list_of (steps_from l.next l.part l.at)))

abbrev pub decreases-loop-t : goal.decreases-loop-t
decreases-loop-t l = length l.part - l.at
