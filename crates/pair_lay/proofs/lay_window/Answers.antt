-- `pair_lay::lay_window` meets its contract: each turn lays some steps ahead, until the next is past the window or there is none. Assumes nothing.
use mathlib.Core.Path.{refl}
use native.Mathlib.Omega.{arith}
use Rattle.rules.specs.Limits.Laws.{largest_coded}
use Rattle.pair_lay.proofs.Laying.{laying_start, laying_from, laying_turn, laying_end}
use Rattle.pair_lay.proofs.lay_window.Goals as goal

pub no_step-none-requires : goal.no_step-none-requires
no_step-none-requires c = tt

pub overflow_mul-bound : goal.overflow_mul-bound
overflow_mul-bound c = omega (arith, c.requires.words_value.1)

pub overflow_add-bound : goal.overflow_add-bound
overflow_add-bound c = omega (arith, c.requires.words_value.1, c.requires.stands.1, c.requires.stands.0.placed.step, largest_coded)

pub loop-at-init : goal.loop-at-init
loop-at-init c = laying_start c.requires.stands.0 refl c.requires.words_value.0

pub lay_loaded-at-requires : goal.lay_loaded-at-requires
lay_loaded-at-requires c = (
  c.loop-at.invariant.stands,
  (
    laying_from c.loop-at.invariant c.requires.stands.0 (omega arith) c.requires.stands.1,
    (omega (arith, c.loop-at-test.true, c.min-top.ensures, c.loop-at.invariant.size), (omega (arith, c.loop-at-test.true, c.min-top.ensures, c.no_step-none.ensures), omega (arith, c.loop-at.invariant.size, c.requires.words_value.1))),
  ),
)

pub loop-at-smaller : goal.loop-at-smaller
loop-at-smaller c = (laying_turn c.loop-at.invariant c.lay_loaded-at.ensures).1

pub loop-at-preserved : goal.loop-at-preserved
loop-at-preserved c = (laying_turn c.loop-at.invariant c.lay_loaded-at.ensures).0

pub shape_of-words : goal.shape_of-words
shape_of-words c = c.loop-at.invariant.size

pub returns : goal.returns
returns c = laying_end c.loop-at.invariant (λ h. omega (arith, h, c.loop-at-test.false, c.min-top.ensures, c.no_step-none.ensures))
