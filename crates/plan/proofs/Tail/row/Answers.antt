-- `plan::Tail::row` meets its contract: the work area has the reach of the rank, which is not below the step before the rank, and fits.
-- Assumes nothing.
use native.Mathlib.Omega.{arith}
use Rattle.plan.proofs.Passes.{stands}
use Rattle.plan.proofs.Tail.row.Goals as goal

pub overflow_sub-self : goal.overflow_sub-self
overflow_sub-self c = let s = stands c.args.self.now.ready c.args.self.now.rank (omega arith) c.args.self.now.within in
    omega (arith, s.fits.from, s.reach)

pub row_size-requires : goal.row_size-requires
row_size-requires c = let s = stands c.args.self.now.ready c.args.self.now.rank (omega arith) c.args.self.now.within in
    omega (arith, s.fits.reach, s.reach)
