-- `pair_lay::four_at` meets its contract: four bytes, each with 1 added to it. Assumes nothing.
use mathlib.Core.Path.{refl}
use native.Mathlib.Omega.{arith}
use Rattle.pair_lay.proofs.Fours.{leading}
use Rattle.pair_lay.proofs.four_at.Goals as goal

pub returns : goal.returns
returns c = λ z.
    leading c.args.payload.now c.args.at c.number_at-number.result _ (λ i. omega (arith, c.type_inv.payload i)) c.requires c.number_at-number.ensures.0 refl
    (c.flags.ensures z)
