-- `rules::largest_step` meets its contract: the constant is the largest step. Assumes nothing.
use mathlib.Core.Path.{refl}
use Rattle.rules.specs.Limits.Values.{largest_step}
use Rattle.rules.proofs.largest_step.Goals as goal

pub returns : goal.returns
unfolding largest_step
returns c = refl
