-- `row_read::steps_before` meets its contract: what stood after the steps stands there again. Assumes nothing.
use mathlib.Core.Path.{refl, ◌∙◌}
use Rattle.row.specs.Row.{row_steps}
use Rattle.row_word.proofs.Loosely.{put_back}
use Rattle.row_read.proofs.steps_before.Goals as goal

pub returns : goal.returns
returns c = record {
  place = c.steps_loose-k.ensures.place;
  stores = c.put_four.ensures ∙ put_back c.args.out.now c.args.at (row_steps c.args.from c.args.part.now) _ _ _ _ _ _ _ c.steps_loose-k.ensures.loose c.requires.1.0 c.requires.1.0 refl refl refl refl;
}
