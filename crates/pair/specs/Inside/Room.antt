-- Room for the result of two accepted images, and a short buffer that holds it.
use Rattle.std.specs.Prelude.{◌≡◌, List, ℕ, ◌≤◌, length, take}
use Rattle.image.specs.Taken.{steps_of, Taken}
use Rattle.pair_operation.specs.declared.Operation.{Operation}
use Rattle.pair_operation.specs.Result.{result_of}
use Rattle.outcome.specs.Result.{Roomy}

-- both images are accepted, and a step buffer and a work area of these lengths have room for the result
pub record Ready (op : Operation) (first second : List ℕ) (steps work : ℕ) : Type 0 where
  pub first_taken : Taken first
  pub second_taken : Taken second
  pub room : Roomy (length (result_of op (steps_of first) (steps_of second))) steps work

-- the result has `n` steps, and they stand in front of `few` where it has room for all of them
pub record Held (op : Operation) (first second : List ℕ) (n : ℕ) (few : List ℕ) : Type 0 where
  pub counted : n ≡ length (result_of op (steps_of first) (steps_of second))
  pub kept : n ≤ length few → take n few ≡ result_of op (steps_of first) (steps_of second)
