-- `image_directory::Question::answers` meets its contract, by what is asked. Assumes nothing.
use mathlib.Core.Path.{sym, ap}
use Rattle.image_directory.specs.declared.Question.{Question}
use Rattle.image_directory.specs.Search.{passes}
use Rattle.image_directory.proofs.Question.answers.Goals as goal

pub returns-in-Rank : goal.returns-in-Rank
returns-in-Rank c = ap (λ (q : Question). passes q c.args.e) (sym c.in-Rank.is)

pub returns-in-Bound : goal.returns-in-Bound
returns-in-Bound c = ap (λ (q : Question). passes q c.args.e) (sym c.in-Bound.is)
