-- `rules::most_steps` meets its contract: the constant is the largest number of steps. Assumes nothing.
use mathlib.Core.Path.{refl}
use Rattle.rules.specs.Limits.Values.{most_steps}
use Rattle.rules.proofs.most_steps.Goals as goal

pub returns : goal.returns
unfolding most_steps
returns c = refl
