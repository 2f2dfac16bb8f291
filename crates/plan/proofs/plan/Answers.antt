-- `plan::plan` meets its contract: each pass leaves what the next asks for, and the number at rank 0 is the bytes of the best cut.
-- Assumes nothing.
use mathlib.Core.Path.{◌∙◌}
use native.Mathlib.Omega.{arith}
use Rattle.plan.proofs.First.{bytes_least}
use Rattle.plan.proofs.Passes.{kept_trans}
use Rattle.plan.proofs.plan.Goals as goal

pub returns : goal.returns
returns c = let k = kept_trans c.sizes.ensures.0 (kept_trans c.values.ensures.0 c.marks-blocks.ensures.1) in
    record {
      same = k.same;
      marked = c.marks-blocks.ensures.2;
      blocks = c.marks-blocks.ensures.0;
      bytes = c.fewest-bytes.ensures ∙ bytes_least c.requires.0 0 (omega arith);
      rest = k.rest;
    }
