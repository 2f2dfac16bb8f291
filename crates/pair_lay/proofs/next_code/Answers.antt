-- `pair_lay::next_code` meets its contract: by a code of two bytes, or as any walk goes. Assumes nothing.
use mathlib.Core.Path.{sym, subst}
use native.Mathlib.Omega.{arith}
use Rattle.rules.specs.Limits.Laws.{largest_coded}
use Rattle.image_walk.specs.Walk.{Follows}
use Rattle.image_walk.proofs.Payload.{payload_bytes}
use Rattle.image_walk.proofs.Passing.{code_next, pass_to}
use Rattle.pair_lay.proofs.next_code.Goals as goal

pub slice_bounds-double-end : goal.slice_bounds-double-end
slice_bounds-double-end c = omega (arith, (c.requires.0.placed.on c.requires.1.1).within)

pub overflow_add-w : goal.overflow_add-w
overflow_add-w c = omega (arith, c.requires.1.1, largest_coded)

pub overflow_add-w-in-Some : goal.overflow_add-w-in-Some
overflow_add-w-in-Some c = omega (arith, c.requires.1.1, largest_coded, c.in-Some.ensures.0)

pub overflow_add-at : goal.overflow_add-at
overflow_add-at c = let o = c.requires.0.placed.on c.requires.1.1 in
    omega (arith, c.if-at-end.true, o.within, o.few)

pub returns-in-Some : goal.returns-in-Some
returns-in-Some c = subst (Follows c.args.source.image.now c.args.source.payload.now c.args.w) (sym c.coded.ensures)
    (pass_to c.requires.0 c.requires.1.1
    (code_next c.args.source.payload.now c.args.w c.requires.0.placed c.requires.1.0 c.if-at-end.true c.in-Some.gap 2 (payload_bytes c.args.source) c.in-Some.ensures.1))
