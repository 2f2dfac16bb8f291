-- What a code that was read says of the bytes.
use Rattle.std.specs.Prelude.{◌≡◌, List, ◌++◌, ℕ, ◌+◌, ◌≤◌, ◌<◌, length, drop}
use Rattle.code.specs.Code.Open.{code_values, code_of, code_size, read_at}

-- a value was read at `at`, and the next code stands at `n`
pub record Read (s : List ℕ) (at x n : ℕ) : Type 0 where
  pub small : x < code_values
  pub after : n ≡ at + code_size x
  pub within : n ≤ length s
  pub bytes : drop at s ≡ code_of x ++ drop n s
