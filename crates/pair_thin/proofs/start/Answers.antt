-- `pair_thin::start` meets its contract. Assumes nothing.
use Rattle.pair_thin.proofs.Coming.{Comes_first}
use Rattle.pair_thin.proofs.start.Goals as goal

pub returns : goal.returns
returns c = let first = Comes_first c.args.first.bytes c.args.first.taken c.first-a.ensures in
    let second = Comes_first c.args.second.bytes c.args.second.taken c.first-b.ensures in
    (record { from = 0; first = first.0; second = second.0; lower = c.min.ensures }, (first.1, second.1))
