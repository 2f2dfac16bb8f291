-- `read::blocks` meets its contract. The loop's invariant is `Checking`: a block that has no number goes on, one that has a number halts.
-- Assumes nothing.
use mathlib.Core.Path.{sym, ap, ◌∙◌, subst}
use Prim.Native.Nat.{◌+◌}
use native.Mathlib.Omega.{arith}
use lib.ListN.{length}
use Rattle.std.specs.Prelude.{Err}
use Rattle.image.specs.declared.Before.{Before}
use Rattle.image.proofs.Directory.{Clean}
use Rattle.image_directory.proofs.Ahead.{ahead_Clean}
use Rattle.image_block.proofs.Steps.{fitting, part_size}
use Rattle.read.proofs.Turns.{Checking, Checking-start, Checking_next, checking_halt, checking_end}
use Rattle.read.proofs.blocks.Goals as goal
use Rattle.read.proofs.blocks.Goals.{After-entry-e}

-- what is known once the entry was read
clean : (c : After-entry-e) → Clean (length c.args.payload.now) c.loop-i.b c.entry-e.result
clean c = ahead_Clean c.loop-i.invariant.ahead c.entry-e.result c.entry-e.ensures.0 c.loop-i-test.true

pub loop-i-init : goal.loop-i-init
loop-i-init c = subst (λ (b : Before). Checking c.args.image.now c.args.payload.now c.args.m b 0) (sym c.start-b.ensures)
    (Checking-start c.args.image.now c.args.payload.now c.args.m c.requires)

pub slice_bounds-block-count : goal.slice_bounds-block-count
slice_bounds-block-count c = omega (arith, (clean (goal.at.slice_bounds-block-count c).After-entry-e).end)

pub slice_bounds-block-start : goal.slice_bounds-block-start
slice_bounds-block-start c = let k = clean (goal.at.slice_bounds-block-start c).After-entry-e in omega (arith, k.end, k.within)

pub slice_bounds-block-end : goal.slice_bounds-block-end
slice_bounds-block-end c = omega (arith, (clean (goal.at.slice_bounds-block-end c).After-entry-e).within)

pub invariant_of-block : goal.invariant_of-block
invariant_of-block c = let k = clean (goal.at.invariant_of-block c).After-entry-e in
    record { fits = fitting k (part_size c.args.payload.now k c.requires.few) }

pub returns-then-n-ne0 : goal.returns-then-n-ne0
returns-then-n-ne0 c = ap Err c.refuse.ensures
    ∙ checking_halt c.loop-i.invariant c.entry-e.result c.entry-e.ensures.0 c.loop-i-test.true
    c.number-n.result c.number-n.ensures c.if-n-ne0.true

pub loop-i-preserved : goal.loop-i-preserved
loop-i-preserved c = subst (λ (b : Before). Checking c.args.image.now c.args.payload.now c.args.m b (c.loop-i.i + 1)) (sym c.after-b.ensures)
    (Checking_next c.loop-i.invariant c.entry-e.result c.entry-e.ensures.0 c.loop-i-test.true c.number-n.result
    c.number-n.ensures (omega arith))

pub returns : goal.returns
returns c = checking_end c.loop-i.invariant c.loop-i-test.false
