-- `plan::Tail::ends_at` meets its contract: the work area has what the rank reaches and what codes lead to from there on, and both fit.
-- Assumes nothing.
use native.Mathlib.Omega.{arith}
use borrow.Author.Tests.{ltb-true, ltb-false}
use Rattle.plan.proofs.Ranks.{goes_on, goes_not}
use Rattle.plan.proofs.Passes.{stands, row_later}
use Rattle.plan.proofs.Tail.ends_at.Goals as goal

pub overflow_add-row : goal.overflow_add-row
overflow_add-row c = let s = stands c.args.self.now.ready c.args.j (omega arith) c.requires.1 in
    omega (arith, s.before (omega arith), s.fits.start)

pub overflow_sub-row-2 : goal.overflow_sub-row-2
overflow_sub-row-2 c = let s = stands c.args.self.now.ready c.args.j (omega arith) c.requires.1 in
    omega (arith, s.before (omega arith), s.fits.from, s.reach)

pub overflow_add-row-2 : goal.overflow_add-row-2
overflow_add-row-2 c = let s = stands c.args.self.now.ready c.args.j (omega arith) c.requires.1 in
    omega (arith, s.fits.reach, s.reach)

pub returns-clause-goes_on : goal.returns-clause-goes_on
returns-clause-goes_on c = let s = stands c.args.self.now.ready c.args.j (omega arith) c.requires.1 in
    λ e. goes_on c.args.self.now.list.now c.args.j c.requires.1 s.codes (row_later s (omega arith)) (ltb-false _ _ e)

pub returns-clause-ends : goal.returns-clause-ends
returns-clause-ends c = let s = stands c.args.self.now.ready c.args.j (omega arith) c.requires.1 in
    λ e. goes_not c.args.self.now.list.now c.args.j c.requires.1 s.codes (row_later s (omega arith)) (ltb-true _ _ e)
