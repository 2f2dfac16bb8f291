-- What is kept of a number by the flag of a byte.
use Rattle.std.specs.Prelude.{ℕ, ltb}
use Rattle.lists.specs.Choice.{pick}
use Rattle.code.specs.Code.{flag}

-- a number where the byte has the flag, else 0
unfoldable pub kept : ℕ → ℕ → ℕ
kept b x = pick (ltb b flag) 0 x
