-- `codes::first_from` meets its contract. The invariant: `index` steps were passed, which are below x, and what is looked for is found among
-- those that are left.
-- Assumes nothing.
use Prim.Native.Nat.{◌+◌}
use mathlib.Core.Path.{◌≡◌}
use Rattle.lists.specs.Below.{below}
use Rattle.codes.specs.Codes.{steps_from, list_of}
use Rattle.codes.proofs.Finding.{found_in}
use Rattle.codes.proofs.first_from.Given as goal

abbrev pub invariant-loop-step : goal.invariant-loop-step
invariant-loop-step l =
    (goal.iterator-loop-step).can_next l.step-iterator
    × (goal.iterator-loop-step).is_finite l.step-iterator
    × (l.passed + below (list_of (steps_from l.from l.part l.start)) l.x ≡ l.index + below l.step-iterator l.x)
    × (found_in (list_of (steps_from l.from l.part l.start)) l.x ≡ found_in l.step-iterator l.x)
