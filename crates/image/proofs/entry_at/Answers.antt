-- `image::entry_at` meets its contract: the byte and the three numbers that it reads stand at the places of an entry, and fit. Assumes nothing.
use native.Mathlib.Omega.{arith}
use Rattle.image.proofs.Entries.{entry_at_lem}
use Rattle.image.proofs.entry_at.Goals as goal

pub returns : goal.returns
returns c = (
  entry_at_lem c.args.s.now c.args.at c.from.ensures c.number_at.ensures.0 c.number_at-2.ensures.0 c.number_at-3.ensures.0,
  record { kind = omega (arith, c.from.ensures, c.type_inv.s c.args.at); last = c.number_at.ensures.1; upto = c.number_at-2.ensures.1; end = c.number_at-3.ensures.1 },
)
