-- `code_stretch::tally` meets its contract: what is added and what the bytes from i on say is all. Assumes nothing.
use native.Mathlib.Omega.{arith}
use Rattle.code_stretch.proofs.Bytewise.{Adding_turn, adding_end}
use Rattle.code_stretch.proofs.tally.Goals as goal

pub loop-i-preserved : goal.loop-i-preserved
loop-i-preserved c = Adding_turn c.loop-i.invariant c.loop-i.auto.i c.loop-i-test.true c.weigh-x.ensures

pub returns : goal.returns
returns c = adding_end c.loop-i.invariant (omega (arith, c.loop-i.auto.i-end)) (omega arith) c.joined.ensures
