-- `row::step_from` meets its contract: the step looked for is the one at index `left` of the row from byte i on. Assumes nothing.
use mathlib.Core.Path.{ap, ◌∙◌}
use Prim.Native.Nat.{ℕ, ◌+◌, ◌*◌, ◌<◌}
use native.Mathlib.Omega.{arith}
use Rattle.row.specs.Row.{byte_bits}
use Rattle.row.proofs.Places.{kth_most}
use Rattle.row.proofs.Seeking.{byte_most, seeking_byte_here, Seeking_byte_past, seeking_end}
use Rattle.row.proofs.step_from.Goals as goal

pub kth-requires : goal.kth-requires
kth-requires c = let b : c.from-byte.result < 256 = omega (arith, (c.type_inv.part c.loop-i.i).fits) in
    (b, omega (arith, byte_most c.from-byte.result c.ones-n.result b c.ones-n.ensures.0))

pub overflow_add-result-then-left-n : goal.overflow_add-result-then-left-n
overflow_add-result-then-left-n c = omega (arith, c.kth.ensures, kth_most c.from-byte.result c.loop-i.left)

pub returns-then-left-n : goal.returns-then-left-n
returns-then-left-n c = ap (λ (j : ℕ). c.args.from + byte_bits * c.loop-i.i + j) c.kth.ensures
    ∙ seeking_byte_here c.args.from c.args.part.now c.loop-i.i c.loop-i.invariant c.from-byte.result c.ones-n.result (omega arith) c.from-byte.ensures (omega (arith, (c.type_inv.part c.loop-i.i).fits)) c.ones-n.ensures.0 c.if-left-n.true

pub loop-i-preserved : goal.loop-i-preserved
loop-i-preserved c = Seeking_byte_past c.args.from c.args.part.now c.loop-i.i c.loop-i.invariant c.from-byte.result c.ones-n.result (omega arith) c.from-byte.ensures (omega (arith, (c.type_inv.part c.loop-i.i).fits)) c.ones-n.ensures.0 c.if-left-n.false

pub returns : goal.returns
returns c = absurd (seeking_end c.args.from c.args.part.now c.loop-i.i c.loop-i.invariant (omega arith))
