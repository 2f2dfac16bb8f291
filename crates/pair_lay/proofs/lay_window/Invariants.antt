-- `pair_lay::lay_window` meets its contract: each turn lays some steps ahead, until the next is past the window or there is none. Assumes nothing.
use lib.ListN.{length}
use Rattle.image_walk.specs.Walk.{ahead}
use Rattle.pair_lay.proofs.Laying.{LayingWindow}
use Rattle.pair_lay.proofs.lay_window.Given as goal

abbrev pub invariant-loop-at : goal.invariant-loop-at
invariant-loop-at l = LayingWindow l.source.image.now l.source.payload.now l.initial.at l.from (length l.initial.words) l.words l.at

abbrev pub decreases-loop-at : goal.decreases-loop-at
decreases-loop-at l = length (ahead l.source.image.now l.source.payload.now l.at)
