-- Document 01's lists.
use Rattle.std.specs.Prelude.{List, ℕ, ◌+◌, ◌≤◌, length}
use Rattle.lists.specs.Rising.{Rising, beyond}
use Rattle.rules.specs.Limits.{largest_step, most_steps}

-- strictly increasing, each step at most the largest, and no more steps than the most
pub record Listed (xs : List ℕ) : Type 0 where
  pub rising : Rising 0 xs
  pub small : beyond 0 xs ≤ largest_step + 1
  pub few : length xs ≤ most_steps
