-- `codes::check` meets its contract. The invariant: what is to be found is what is found from `at` on, after `count` steps that end
-- before `next`. A step is below the values of a code for each byte passed, so that no sum wraps. Assumes nothing.
use mathlib.Core.Path.{◌≡◌}
use Prim.Native.Nat.{◌+◌, ◌-◌, ◌*◌, ◌^◌, ◌≤◌}
use lib.ListN.{length}
use Rattle.code.specs.Code.{code_values}
use Rattle.codes.specs.Codes.{steps_from, tally_of}
use Rattle.codes.proofs.check.Given as goal

abbrev pub invariant-loop-t : goal.invariant-loop-t
invariant-loop-t l =
    (l.at ≤ length l.part)
    × (tally_of 0 l.from (steps_from l.from l.part 0) ≡ tally_of l.count l.next (steps_from l.next l.part l.at))
    × (l.next ≤ 2 ^ 32 + l.at * code_values)
    × (l.count ≤ l.at)

abbrev pub decreases-loop-t : goal.decreases-loop-t
decreases-loop-t l = length l.part - l.at
