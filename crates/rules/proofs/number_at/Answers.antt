-- `rules::number_at` meets its contract: the four bytes, one after the other, are the number. Assumes nothing.
use mathlib.Core.Path.{refl}
use native.Mathlib.Omega.{arith}
use Rattle.rules.proofs.Numbers.{number_four}
use Rattle.rules.proofs.number_at.Goals as goal

pub returns : goal.returns
returns c = (
  omega (arith, c.from_le_bytes.ensures, number_four c.args.s.now c.args.at _ _ _ _ (omega arith) refl refl refl refl),
  omega arith,
)
