-- What counting a result promises: its number of steps, and the steps themselves where there is room for them.
use Rattle.std.specs.Prelude.{◌≡◌, List, ◌++◌, ℕ, ◌≤◌, length, drop}
use Rattle.image.specs.Taken.{steps_of}
use Rattle.pair_operation.specs.declared.Operation.{Operation}
use Rattle.pair_operation.specs.Result.{result_of}

-- `n` is the number of steps of the result, and these stand in front of `steps'` where `steps` had room for all of them
pub record Counts (op : Operation) (first second steps : List ℕ) (n : ℕ) (steps' : List ℕ) : Type 0 where
  pub counted : n ≡ length (result_of op (steps_of first) (steps_of second))
  pub kept : n ≤ length steps
      → steps' ≡ result_of op (steps_of first) (steps_of second) ++ drop (length (result_of op (steps_of first) (steps_of second))) steps
