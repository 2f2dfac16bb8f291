-- `row::ones_under` meets its contract: a one at the place's bit, less 1, keeps the bits before it. Assumes nothing.
use mathlib.Core.Path.{ap, ◌∙◌}
use Prim.Native.Nat.{ℕ, ◌%◌}
use native.Mathlib.Omega.{arith}
use lib.ListN.{length}
use Rattle.row.specs.Row.{byte_bits, bits_from}
use Rattle.row.proofs.Places.{ones_masked}
use Rattle.row.proofs.ones_under.Goals as goal

pub returns : goal.returns
returns c = let t = c.args.place % byte_bits in (
  ones_masked c.from.result t c.one_at-low.result c.ones.result (omega arith) c.one_at-low.ensures.0 c.ones.ensures.0
      ∙ ap (λ (b : ℕ). length (bits_from t 0 b)) c.from.ensures,
  c.ones.ensures.1,
)
