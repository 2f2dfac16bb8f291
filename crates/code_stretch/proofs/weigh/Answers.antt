-- `code_stretch::weigh` meets its contract, by what is kept of a byte's group for each of the next three that has the flag. Assumes nothing.
use mathlib.Core.Path.{ap, ◌∙◌}
use Prim.Native.Nat.{◌<◌}
use native.Mathlib.Omega.{arith}
use Rattle.code.specs.Flagged.{kept}
use Rattle.code_stretch.proofs.Bytewise.{shares_worth, shares_ends, shares_flaws}
use Rattle.code_stretch.proofs.weigh.Goals as goal

pub returns : goal.returns
returns c = let w : c.args.a < 256 = omega arith in
    record {
      worth = shares_worth c.args.a c.args.b c.args.c w c.kept-second.result c.kept-third.result c.kept-fourth.result c.kept-second.ensures.0 c.kept-third.ensures.0 c.kept-fourth.ensures.0;
      group = (
        omega arith,
        omega (arith, c.kept-second.ensures.1),
        omega (arith, c.kept-second.ensures.1, c.kept-third.ensures.1),
        omega (
          arith,
          c.kept-second.ensures.1,
          c.kept-third.ensures.1,
          c.kept-fourth.ensures.1,
        ),
      );
      ends_is = (shares_ends c.args.a c.args.b c.args.c w, omega arith);
      flaws_is = (
        shares_flaws c.args.a c.args.b c.args.c w c.args.d c.kept-long.result c.padded.result
            (c.kept-long.ensures.0
            ∙ ap (kept c.args.a) (c.kept-3.ensures.0 ∙ ap (kept c.args.b) (c.kept-2.ensures.0 ∙ ap (kept c.args.c) c.kept.ensures.0)))
            c.padded.ensures.0 c.padded.ensures.1.0 c.padded.ensures.1.1,
        omega (arith, c.kept-long.ensures.1, c.kept-3.ensures.1, c.kept-2.ensures.1, c.kept.ensures.1, c.padded.ensures.0),
      );
    }
