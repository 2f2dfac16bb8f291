-- `pair_lay::lay_fours` meets its contract: each turn lays the walk's step and the next three, and moves past four codes. Assumes nothing.
use Prim.Native.Nat.{◌+◌}
use native.Mathlib.Omega.{arith}
use Rattle.rules.specs.Limits.Laws.{largest_coded}
use Rattle.pair_lay.proofs.Fours.{strides, Ran_from, Ran_coded, Ran_four}
use Rattle.pair_lay.proofs.lay_fours.Goals as goal

pub overflow_mul-room : goal.overflow_mul-room
overflow_mul-room c = omega (arith, c.requires.from_le_step)

pub before_last-upto-requires : goal.before_last-upto-requires
before_last-upto-requires c = tt

pub overflow_sub-place : goal.overflow_sub-place
overflow_sub-place c = c.requires.from_le_step.0

pub loop-at-init : goal.loop-at-init
loop-at-init c = Ran_from c.args.payload.now c.args.w c.args.from c.args.words.now c.requires.placed.0 c.requires.placed.1.0 c.requires.placed.1.1 c.requires.from_le_step.0

pub four_at-four-requires : goal.four_at-four-requires
four_at-four-requires c = omega (arith, c.loop-at-test.true, c.before_last-upto.ensures, (c.loop-at.invariant.placed.on c.loop-at.invariant.on).within)

pub overflow_add-from : goal.overflow_add-from
overflow_add-from c = omega (arith, c.loop-at.invariant.on, largest_coded)

pub coded-requires : goal.coded-requires
coded-requires c = tt

pub shape_of-words-then-four-ne0 : goal.shape_of-words-then-four-ne0
shape_of-words-then-four-ne0 c = c.loop-at.invariant.size

pub returns-then-four-ne0 : goal.returns-then-four-ne0
returns-then-four-ne0 c = Ran_coded c.args.payload.now c.args.w c.args.from c.args.words.now c.loop-at.words (c.args.from + c.loop-at.place) c.loop-at.at _ c.loop-at.invariant c.coded.ensures

pub overflow_add-second : goal.overflow_add-second
overflow_add-second c = omega (arith, c.loop-at.invariant.on, largest_coded, (strides (c.four_at-four.ensures (omega (arith, c.if-four-ne0.false)))).0)

pub overflow_add-third : goal.overflow_add-third
overflow_add-third c = omega (arith, c.loop-at.invariant.on, largest_coded, (strides (c.four_at-four.ensures (omega (arith, c.if-four-ne0.false)))).0, (strides (c.four_at-four.ensures (omega (arith, c.if-four-ne0.false)))).1.0)

pub overflow_add-fourth : goal.overflow_add-fourth
overflow_add-fourth c = omega (arith, c.loop-at.invariant.on, largest_coded, (strides (c.four_at-four.ensures (omega (arith, c.if-four-ne0.false)))).0, (strides (c.four_at-four.ensures (omega (arith, c.if-four-ne0.false)))).1.0, (strides (c.four_at-four.ensures (omega (arith, c.if-four-ne0.false)))).1.1.0)

pub overflow_add-from-then-room-fourth : goal.overflow_add-from-then-room-fourth
overflow_add-from-then-room-fourth c = omega (arith, c.loop-at.invariant.on, largest_coded)

pub coded-requires-then-room-fourth : goal.coded-requires-then-room-fourth
coded-requires-then-room-fourth c = tt

pub shape_of-words-then-room-fourth : goal.shape_of-words-then-room-fourth
shape_of-words-then-room-fourth c = c.loop-at.invariant.size

pub returns-then-room-fourth : goal.returns-then-room-fourth
returns-then-room-fourth c = Ran_coded c.args.payload.now c.args.w c.args.from c.args.words.now c.loop-at.words (c.args.from + c.loop-at.place) c.loop-at.at _ c.loop-at.invariant c.coded-then-room-fourth.ensures

pub mark-requires : goal.mark-requires
mark-requires c = (omega (arith, c.if-room-fourth.false, c.loop-at.invariant.size), omega (arith, c.requires.from_le_step, c.loop-at.invariant.size))

pub mark-requires-in-loop-at : goal.mark-requires-in-loop-at
mark-requires-in-loop-at c = (omega (arith, c.if-room-fourth.false, c.loop-at.invariant.size), omega (arith, c.requires.from_le_step, c.loop-at.invariant.size))

pub mark-requires-in-loop-at-2 : goal.mark-requires-in-loop-at-2
mark-requires-in-loop-at-2 c = (omega (arith, c.if-room-fourth.false, c.loop-at.invariant.size), omega (arith, c.requires.from_le_step, c.loop-at.invariant.size))

pub mark-requires-in-loop-at-3 : goal.mark-requires-in-loop-at-3
mark-requires-in-loop-at-3 c = (omega (arith, c.if-room-fourth.false, c.loop-at.invariant.size), omega (arith, c.requires.from_le_step, c.loop-at.invariant.size))

pub overflow_add-place : goal.overflow_add-place
overflow_add-place c = let k = strides (c.four_at-four.ensures (omega (arith, c.if-four-ne0.false))) in omega (arith, c.loop-at.invariant.on, largest_coded, k.0, k.1.0, k.1.1.0, k.1.1.1)

pub overflow_add-at : goal.overflow_add-at
overflow_add-at c = let o = c.loop-at.invariant.placed.on c.loop-at.invariant.on in
    omega (arith, c.loop-at-test.true, c.before_last-upto.ensures, o.within, o.few)

pub loop-at-smaller : goal.loop-at-smaller
loop-at-smaller c = omega (arith, c.loop-at-test.true)

pub loop-at-preserved : goal.loop-at-preserved
loop-at-preserved c = Ran_four c.args.payload.now c.args.w c.args.from c.args.words.now (λ i. omega (arith, c.type_inv.payload i))
    c.loop-at.words c.loop-at.place c.loop-at.at c.four_at-four.result.first c.four_at-four.result.second c.four_at-four.result.third c.four_at-four.result.fourth c.loop-at.invariant (omega (arith, c.loop-at-test.true, c.before_last-upto.ensures))
    (omega (arith, c.if-room-fourth.false, c.loop-at.invariant.size)) (c.four_at-four.ensures (omega (arith, c.if-four-ne0.false))) _ (omega arith) c.mark.ensures
    _ (omega arith) c.mark-in-loop-at.ensures _ (omega arith) c.mark-in-loop-at-2.ensures
    _ (omega arith) c.mark-in-loop-at-3.ensures

pub overflow_add-from-2 : goal.overflow_add-from-2
overflow_add-from-2 c = omega (arith, c.loop-at.invariant.on, largest_coded)

pub coded-requires-2 : goal.coded-requires-2
coded-requires-2 c = tt

pub shape_of-words : goal.shape_of-words
shape_of-words c = c.loop-at.invariant.size

pub returns : goal.returns
returns c = Ran_coded c.args.payload.now c.args.w c.args.from c.args.words.now c.loop-at.words (c.args.from + c.loop-at.place) c.loop-at.at _ c.loop-at.invariant c.coded-2.ensures
