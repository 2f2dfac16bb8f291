-- `pair_lay::flags` meets its contract: where the sum is 0, so is each of its parts. Assumes nothing.
use mathlib.Core.Path.{◌≡◌, sym, ◌∙◌}
use native.Mathlib.Omega.{arith}
use Rattle.pair_lay.proofs.Fours.{plain}
use Rattle.pair_lay.proofs.flags.Goals as goal

pub returns : goal.returns
returns c = λ z.
    let h1 : c.high.result ≡ 0 = omega (arith, z) in
    let h2 : c.high-2.result ≡ 0 = omega (arith, z) in
    let h3 : c.high-3.result ≡ 0 = omega (arith, z) in
    let h4 : c.high-4.result ≡ 0 = omega (arith, z) in
    plain c.args.number (sym c.high.ensures.0 ∙ h1)
    (sym c.high-2.ensures.0 ∙ h2) (sym c.high-3.ensures.0 ∙ h3) (sym c.high-4.ensures.0 ∙ h4)
