-- `image_directory::entries` meets its contract. The loop's invariant: the verdict on the directory is that on the entries from `i` on, after `b`.
-- Assumes nothing.
use mathlib.Core.Path.{sym, ap, ◌∙◌}
use Prim.Native.Nat.{◌+◌}
use native.Mathlib.Omega.{arith}
use Rattle.std.specs.Prelude.{Err}
use Rattle.image.specs.declared.Before.{Before}
use Rattle.image.specs.Entry.{start}
use Rattle.image.specs.Verdict.{directory_of}
use Rattle.image.proofs.Directory.{directory_turn, directory_halt, directory_end, directory_just, directory_closing}
use Rattle.image_directory.proofs.Ahead.{left, left_start}
use Rattle.image_directory.proofs.entries.Goals as goal

pub loop-i-init : goal.loop-i-init
loop-i-init c = ap (directory_of c.args.p start 0) (left_start c.args.image.now c.args.m)
    ∙ ap (λ (b : Before). directory_of c.args.p b 0 (left c.args.image.now c.args.m 0)) (sym c.start-b.ensures)

pub returns-then-n-ne0 : goal.returns-then-n-ne0
returns-then-n-ne0 c = ap Err c.refuse.ensures
    ∙ sym
    (c.loop-i.invariant
    ∙ directory_halt c.args.image.now c.args.m c.args.p c.loop-i.b c.loop-i.i c.entry-e.result c.fault_of-n.result
    c.entry-e.ensures.0 c.fault_of-n.ensures (omega arith) c.if-n-ne0.true)

pub loop-i-preserved : goal.loop-i-preserved
loop-i-preserved c = c.loop-i.invariant
    ∙ directory_turn c.args.image.now c.args.m c.args.p c.loop-i.b c.loop-i.i c.entry-e.result c.fault_of-n.result
    c.entry-e.ensures.0 c.fault_of-n.ensures (omega arith) (omega arith)
    ∙ ap (λ (b : Before). directory_of c.args.p b (c.loop-i.i + 1) (left c.args.image.now c.args.m (c.loop-i.i + 1))) (sym c.after-b.ensures)

pub returns-then-b-p : goal.returns-then-b-p
returns-then-b-p c = sym
    (c.loop-i.invariant
    ∙ directory_end c.args.image.now c.args.m c.args.p c.loop-i.b c.loop-i.i (omega arith)
    ∙ directory_just c.args.p c.loop-i.b c.args.m c.if-b-p.true)

pub returns : goal.returns
returns c = ap Err c.refuse-2.ensures
    ∙ sym
    (c.loop-i.invariant
    ∙ directory_end c.args.image.now c.args.m c.args.p c.loop-i.b c.loop-i.i (omega arith)
    ∙ directory_closing c.args.p c.loop-i.b c.args.m c.if-b-p.false)
