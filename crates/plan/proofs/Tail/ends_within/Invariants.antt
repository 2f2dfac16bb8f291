-- `plan::Tail::ends_within` meets its contract. The invariant: where `any` does not say so yet, a block of codes goes on at all ranks of the look before
-- rank `k`.
-- Assumes nothing.
use mathlib.Core.Path.{◌≡◌}
use mathlib.Core.Bool.{false}
use Rattle.plan.specs.Inside.Work.{AllGoOn}
use Rattle.plan.proofs.Tail.ends_within.Given as goal

abbrev pub invariant-loop-k : goal.invariant-loop-k
invariant-loop-k l = l.any ≡ false → AllGoOn l.self.list.now l.j l.k
