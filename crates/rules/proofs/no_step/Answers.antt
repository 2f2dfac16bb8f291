-- `rules::no_step` meets its contract: it is one more than the constant. Assumes nothing.
use mathlib.Core.Path.{refl}
use Rattle.rules.specs.Limits.Values.{largest_step}
use Rattle.rules.proofs.no_step.Goals as goal

pub returns : goal.returns
unfolding largest_step
returns c = refl
