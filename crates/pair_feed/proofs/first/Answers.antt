-- `pair_feed::first` meets its contract: what is ahead of the first walk is the image's list. Assumes nothing.
use mathlib.Core.Path.{subst}
use Rattle.pair_feed.specs.Feed.{Fed}
use Rattle.pair_feed.proofs.first.Goals as goal

pub returns : goal.returns
returns c = (subst (Fed c.args.accepted.source.image.now c.args.accepted.source.payload.now c.refill.result c.refill.new.steps) c.first.ensures.1 c.refill.ensures.0, c.refill.ensures.1)
