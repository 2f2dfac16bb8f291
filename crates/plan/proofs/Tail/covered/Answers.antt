-- `plan::Tail::covered` meets its contract. The loop is a scan that passes many ranks at a look at the last of them. Assumes nothing.
use Prim.Native.Nat.{◌+◌, ◌≤◌}
use native.Mathlib.Omega.{arith}
use lib.ListN.{length}
use Rattle.plan.specs.Inside.Work.{stride}
use Rattle.plan.proofs.Ranks.{reach_rises}
use Rattle.plan.proofs.Scans.{scan_many}
use Rattle.plan.proofs.Passes.{stands}
use Rattle.plan.proofs.Tail.covered.Goals as goal

pub loop-j-preserved : goal.loop-j-preserved
loop-j-preserved c = let h : c.loop-j.j + stride ≤ length c.args.self.now.list.now = c.loop-j-test.true in
    let s = stands c.args.self.now.ready (c.loop-j.j + 15) (omega (arith, c.loop-j.invariant.after)) (omega (arith, h)) in
    scan_many c.loop-j.invariant stride h
    (λ u p q. omega (arith, reach_rises c.args.self.now.list.now u (c.loop-j.j + 15) (omega arith) (omega arith), s.reach, c.if-top-self.false))
