-- `row::last_word` meets its contract. The invariant: the word is the number of the bytes that were read, from the last one on.
-- Assumes nothing.
use mathlib.Core.Path.{ap, ◌∙◌}
use native.Mathlib.Omega.{arith}
use Rattle.std.specs.Slice.Iter.{iter_rest}
use Rattle.std.specs.Iterator.Adapters.{rev_source}
use Rattle.row.proofs.Words.{Back_start, Back_turn, back_small}
use Rattle.row.proofs.last_word.Goals as goal

pub loop-byte-init : goal.loop-byte-init
loop-byte-init c = Back_start c.args.s.now _ (ap (λ r. iter_rest (rev_source r)) c.into_iter-byte-iterator.ensures.into_iter_gives
    ∙ ap iter_rest c.rev-byte-items.ensures.source ∙ c.iter.ensures.rest)

pub overflow_mul-word : goal.overflow_mul-word
overflow_mul-word c = omega (arith, back_small c.loop-byte.invariant _ _ c.in-Some.ensures.steps (λ j. (c.type_inv.s j).fits) c.requires)

pub overflow_add-word : goal.overflow_add-word
overflow_add-word c = omega (arith, back_small c.loop-byte.invariant _ _ c.in-Some.ensures.steps (λ j. (c.type_inv.s j).fits) c.requires)

pub loop-byte-preserved : goal.loop-byte-preserved
loop-byte-preserved c = Back_turn c.loop-byte.invariant _ _ c.in-Some.ensures.steps c.from.result c.from.ensures
