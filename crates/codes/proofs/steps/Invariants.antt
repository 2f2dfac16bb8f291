-- `codes::steps` meets its contract. The invariant: what is to be stored has been stored, but for the steps that are left, which go to the
-- place `k`. Assumes nothing.
use Rattle.lists.proofs.Stores.{Storing}
use Rattle.codes.specs.Codes.{steps_from, list_of}
use Rattle.codes.proofs.steps.Given as goal

abbrev pub invariant-loop-step : goal.invariant-loop-step
invariant-loop-step l =
    (goal.iterator-loop-step).can_next l.step-iterator
    × (goal.iterator-loop-step).is_finite l.step-iterator
    × Storing l.initial.out l.at (list_of (steps_from l.from l.part 0)) l.out l.k l.step-iterator
