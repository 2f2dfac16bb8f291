-- `pair_feed::more` meets its contract: where all was taken, what is ahead of the walk is the list. Assumes nothing.
use mathlib.Core.Path.{subst}
use native.Mathlib.Omega.{arith}
use Rattle.pair_feed.specs.Feed.{Fed}
use Rattle.pair_feed.proofs.Filling.{taken_all}
use Rattle.pair_feed.proofs.more.Goals as goal

pub returns : goal.returns
returns c = (
  λ xs d. subst (Fed c.args.source.image.now c.args.source.payload.now c.refill.result c.refill.new.steps) (taken_all d (omega (arith, c.if-f.false))) c.refill.ensures.0,
  c.refill.ensures.1,
)
