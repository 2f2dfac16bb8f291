-- `read::put_blocks` meets its contract. The loop's invariant is `Putting`: each turn stores the steps of one block. Assumes nothing.
use mathlib.Core.Path.{sym, subst}
use Prim.Native.Nat.{◌+◌}
use native.Mathlib.Omega.{arith}
use lib.ListN.{length}
use Rattle.image.specs.declared.Before.{Before}
use Rattle.image.proofs.Directory.{Clean}
use Rattle.image_directory.proofs.Ahead.{ahead_Clean}
use Rattle.image_block.proofs.Steps.{fitting, part_size}
use Rattle.read.proofs.Turns.{Putting, Putting-start, putting_sound, putting_room, putting_next, putting_end}
use Rattle.read.proofs.put_blocks.Goals as goal
use Rattle.read.proofs.put_blocks.Goals.{After-entry-e}

-- what is known once the entry was read
clean : (c : After-entry-e) → Clean (length c.args.payload.now) c.loop-i.b c.entry-e.result
clean c = ahead_Clean c.loop-i.invariant.ahead c.entry-e.result c.entry-e.ensures.0 c.loop-i-test.true

pub loop-i-init : goal.loop-i-init
loop-i-init c = subst (λ (b : Before). Putting c.args.image.now c.args.payload.now c.args.m c.args.out.now c.args.out.now b 0 0) (sym c.start-b.ensures)
    (Putting-start c.args.image.now c.args.payload.now c.args.m c.args.out.now c.requires)

pub slice_bounds-block-count : goal.slice_bounds-block-count
slice_bounds-block-count c = omega (arith, (clean (goal.at.slice_bounds-block-count c).After-entry-e).end)

pub slice_bounds-block-start : goal.slice_bounds-block-start
slice_bounds-block-start c = let k = clean (goal.at.slice_bounds-block-start c).After-entry-e in omega (arith, k.end, k.within)

pub slice_bounds-block-end : goal.slice_bounds-block-end
slice_bounds-block-end c = omega (arith, (clean (goal.at.slice_bounds-block-end c).After-entry-e).within)

pub invariant_of-block : goal.invariant_of-block
invariant_of-block c = let k = clean (goal.at.invariant_of-block c).After-entry-e in
    record { fits = fitting k (part_size c.args.payload.now k c.requires.sound.few) }

pub put_steps-at-requires : goal.put_steps-at-requires
put_steps-at-requires c = (
  putting_sound c.loop-i.invariant c.entry-e.result c.entry-e.ensures.0 c.loop-i-test.true c.requires.sound.few,
  putting_room c.loop-i.invariant c.entry-e.result c.entry-e.ensures.0 c.loop-i-test.true c.requires.sound.few,
)

pub loop-i-preserved : goal.loop-i-preserved
loop-i-preserved c = subst
    (λ (b : Before). Putting c.args.image.now c.args.payload.now c.args.m c.args.out.now c.put_steps-at.new.out b (c.loop-i.i + 1) c.put_steps-at.result)
    (sym c.after-b.ensures)
    (putting_next c.loop-i.invariant c.entry-e.result c.entry-e.ensures.0 c.loop-i-test.true c.requires.sound.few c.put_steps-at.ensures)

pub shape_of-out : goal.shape_of-out
shape_of-out c = c.loop-i.invariant.stores.same

pub returns : goal.returns
returns c = putting_end c.loop-i.invariant c.loop-i-test.false
