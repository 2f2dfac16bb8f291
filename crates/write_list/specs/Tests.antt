-- What the tests of a list say.
use Rattle.std.specs.Prelude.{List, ℕ, ltb, length, Result, Ok, Err, ⊤}
use Rattle.lists.specs.Choice.{pick}
use Rattle.rules.specs.Limits.{most_steps}
use Rattle.rules.specs.Refusals.{too_many_steps, step_too_large, not_increasing, refusal}
use Rattle.rules.specs.declared.Refusal.{Refusal}
use Rattle.write_list.specs.Faults.{first_above, first_fall}

-- 13 at 0; 12 at the first step that is too large; 11 at the first that is not above its forerunner
abbrev pub test_of : List ℕ → Result ⊤ Refusal
test_of xs =
    pick (ltb most_steps (length xs)) (Err (refusal too_many_steps 0))
    (pick (ltb (first_above xs) (length xs)) (Err (refusal step_too_large (first_above xs)))
    (pick (ltb (first_fall xs) (length xs)) (Err (refusal not_increasing (first_fall xs))) (Ok tt)))
