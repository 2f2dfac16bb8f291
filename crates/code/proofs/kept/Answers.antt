-- `code::kept` meets its contract: the product with the flag's bit. Assumes nothing.
use mathlib.Core.Path.{◌≡◌}
use Prim.Native.Nat.{◌*◌, ◌/◌}
use native.Mathlib.Omega.{arith}
use Rattle.code.specs.Code.{flag}
use Rattle.code.specs.Flagged.{kept}
use Rattle.code.proofs.Flagged.{kept_times, kept-le}
use Rattle.code.proofs.kept.Goals as goal
use Rattle.code.proofs.kept.Goals.{Start}

is : (c : Start) → c.args.x * (c.args.b / flag) ≡ kept c.args.b c.args.x
is c = kept_times c.args.b c.args.x (omega arith)

pub overflow_mul-result : goal.overflow_mul-result
overflow_mul-result c = omega (arith, is c, kept-le c.args.b c.args.x)

pub returns : goal.returns
returns c = (is c, omega (arith, is c, kept-le c.args.b c.args.x))
