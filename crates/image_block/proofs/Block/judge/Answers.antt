-- `image_block::Block::judge` meets its contract: the tests that led to each `return` pick the number. Assumes nothing.
use Prim.Native.Nat.{◌+◌, ◌-◌}
use native.Mathlib.Omega.{arith}
use borrow.Author.Tests.{eq-eqb, ne_eqb}
use Rattle.rules.specs.Limits.Laws.{largest_coded}
use Rattle.image_block.proofs.Block.judge.Goals as goal

pub overflow_add-self : goal.overflow_add-self
overflow_add-self c = omega (arith, c.args.self.now.fits.last, largest_coded)

pub returns-then-count-self : goal.returns-then-count-self
returns-then-count-self c = rw (ne_eqb c.args.count (c.args.self.now.entry.upto - c.args.self.now.before.upto) c.if-count-self.true)

pub returns-then-next-self : goal.returns-then-next-self
returns-then-next-self c = rw (eq-eqb c.args.count (c.args.self.now.entry.upto - c.args.self.now.before.upto) (omega arith), ne_eqb c.args.next (c.args.self.now.entry.last + 1) c.if-next-self.true)

pub returns : goal.returns
returns c = rw (eq-eqb c.args.count (c.args.self.now.entry.upto - c.args.self.now.before.upto) (omega arith), eq-eqb c.args.next (c.args.self.now.entry.last + 1) (omega arith))
