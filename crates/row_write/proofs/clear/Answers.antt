-- `row_write::clear` meets its contract: the part is filled with bytes that are 0. Assumes nothing.
use mathlib.Core.Path.{◌≡◌, ap, ◌∙◌}
use Prim.Native.Nat.{ℕ, ◌+◌, ◌-◌}
use native.Mathlib.Omega.{arith}
use lib.ListN.{length, take, drop, replicate, length-take, length-drop}
use Rattle.row_write.proofs.Marking.{zeros_run}
use Rattle.row_write.proofs.clear.Goals as goal

pub returns : goal.returns
returns c = let k : length (take (c.args.at + c.args.n - c.args.at) (drop c.args.at c.args.out.now)) ≡ c.args.n = omega (arith, length-take (c.args.at + c.args.n - c.args.at) (drop c.args.at c.args.out.now), length-drop c.args.at c.args.out.now) in
    zeros_run c.args.out.now c.args.at _ c.args.n c.fill.new.self (c.fill.ensures.after (λ y e. e) ∙ ap (λ (m : ℕ). replicate m 0) k) (omega arith) (omega arith)
