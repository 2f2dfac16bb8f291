-- `plan::fewest` meets its contract: no steps have no block. Assumes nothing.
use mathlib.Core.Path.{sym, ap, ◌∙◌}
use Rattle.plan.specs.Inside.Ahead.{bytes_at}
use Rattle.plan.proofs.Ranks.{bytes_end}
use Rattle.plan.proofs.fewest.Goals as goal

pub returns-then-list-eq0 : goal.returns-then-list-eq0
returns-then-list-eq0 c = sym (ap (bytes_at c.args.list.now) (sym c.if-list-eq0.true) ∙ bytes_end c.args.list.now)
