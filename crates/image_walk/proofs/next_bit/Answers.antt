-- `image_walk::next_bit` meets its contract: by whether a one is left of the word. Assumes nothing.
use mathlib.Core.Path.{sym, ap, ◌∙◌}
use Rattle.image_walk.specs.declared.Walk.{Walk}
use Rattle.std.specs.Prelude.{Some}
use Rattle.image_walk.proofs.Passing.{move_none, move_to}
use Rattle.image_walk.proofs.next_bit.Goals as goal

pub returns-then-bits-eq0 : goal.returns-then-bits-eq0
returns-then-bits-eq0 c = sym (move_none c.args.w c.if-bits-eq0.true)

pub returns : goal.returns
returns c = ap (λ (v : Walk). Some v) c.met.ensures ∙ sym (move_to c.args.w c.if-bits-eq0.false)
