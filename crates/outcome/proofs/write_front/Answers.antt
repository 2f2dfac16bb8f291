-- `outcome::write_front` meets its contract: the steps that are written stand where they are left. Assumes nothing.
use native.Mathlib.Omega.{arith}
use Rattle.outcome.proofs.Leaving.{Leaves_front}
use Rattle.outcome.proofs.write_front.Goals as goal

pub returns : goal.returns
returns c = Leaves_front c.args.n c.requires.1 c.requires.0 c.write_listed.ensures
