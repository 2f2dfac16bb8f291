-- `pair_dense::start` meets its contract: each walk has all steps of its image ahead. Assumes nothing.
use Rattle.pair_dense.proofs.Walking.{begins}
use Rattle.pair_dense.proofs.start.Goals as goal

pub returns : goal.returns
returns c = begins c.args.first.bytes c.args.second.bytes c.args.first.taken c.args.second.taken c.first-a.ensures c.first-b.ensures c.min.ensures
