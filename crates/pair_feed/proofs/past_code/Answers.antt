-- `pair_feed::past_code` meets its contract: no code fails in a block that was checked, so one is read. Assumes nothing.
use mathlib.Core.Path.{◌≡◌, sym, ◌∙◌, subst}
use mathlib.Core.List.{◌∷◌}
use native.Mathlib.Omega.{arith}
use Rattle.rules.specs.Limits.Laws.{largest_coded}
use Rattle.image_walk.specs.declared.Walk.{Walk}
use Rattle.image_walk.specs.Walk.{ahead, Stands}
use Rattle.image_walk.proofs.Passing.{among}
use Rattle.image_walk.proofs.Payload.{payload_bytes}
use Rattle.pair_feed.proofs.Coding.{codes_step, codes_start, codes_next, codes_within}
use Rattle.pair_feed.proofs.past_code.Goals as goal

pub slice_bounds-read-end : goal.slice_bounds-read-end
slice_bounds-read-end c = (among c.args.source.payload.now c.args.w c.requires.0.placed c.requires.1.0 c.requires.1.1).within

pub overflow_add-w : goal.overflow_add-w
overflow_add-w c = omega (arith, codes_step c.requires.0 c.requires.1.0 c.requires.1.1, largest_coded)

pub overflow_add-w-in-Ok : goal.overflow_add-w-in-Ok
overflow_add-w-in-Ok c =
    let n = codes_next c.requires.0 c.requires.1.0 c.requires.1.1 (payload_bytes c.args.source) c.in-Ok.c.value c.in-Ok.c.next (sym c.read.ensures ∙ c.in-Ok.is) in
    omega (arith, n.on, largest_coded)

pub overflow_add-at : goal.overflow_add-at
overflow_add-at c =
    let n = codes_within c.requires.0 c.requires.1.0 c.requires.1.1 (payload_bytes c.args.source) c.in-Ok.c.value c.in-Ok.c.next (sym c.read.ensures ∙ c.in-Ok.is) in
    omega (arith, n, (among c.args.source.payload.now c.args.w c.requires.0.placed c.requires.1.0 c.requires.1.1).within, c.requires.0.blocks.few)

pub returns-in-Ok : goal.returns-in-Ok
returns-in-Ok c =
    let n = codes_next c.requires.0 c.requires.1.0 c.requires.1.1 (payload_bytes c.args.source) c.in-Ok.c.value c.in-Ok.c.next (sym c.read.ensures ∙ c.in-Ok.is) in
    subst (λ (v : Walk). Stands c.args.source.image.now c.args.source.payload.now v
    × (ahead c.args.source.image.now c.args.source.payload.now c.args.w ≡ c.args.w.step ∷ ahead c.args.source.image.now c.args.source.payload.now v))
    (sym c.coded.ensures) (n.stands, n.is)

pub returns-in-Err : goal.returns-in-Err
returns-in-Err c = absurd (codes_start c.requires.0 c.requires.1.0 c.requires.1.1 _ (sym c.read.ensures ∙ c.in-Err.is))
