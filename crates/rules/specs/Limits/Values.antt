-- The limits as the numbers that they are: for this crate and for worked examples, and for nothing else.
use Rattle.std.specs.Prelude.{ℕ}

-- the largest step
unfoldable pub largest_step : ℕ
largest_step = 16777215

-- the largest number of steps of a list
unfoldable pub most_steps : ℕ
most_steps = 1048576
