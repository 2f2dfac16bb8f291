-- `pair_lay_row::past_below` meets its contract: the ones before the bound are passed, and the walk is at the first of the others or after them all.
-- Assumes nothing.
use mathlib.Core.Path.{sym, subst}
use native.Mathlib.Omega.{arith}
use Rattle.image_walk.specs.declared.Rest.{Rest}
use Rattle.image_walk.specs.Turns.{Left, Turned}
use Rattle.pair_lay_row.specs.Inside.Rows.{Cuts}
use Prim.Native.Nat.{◌-◌}
use Rattle.pair_lay_row.proofs.Bits.{taken_away}
use Rattle.pair_lay_row.proofs.Cutting.{at_step, word_Left, cut_out, cut_to}
use Rattle.pair_lay_row.proofs.past_below.Goals as goal

pub overflow_sub-under : goal.overflow_sub-under
overflow_sub-under c = omega (arith, (at_step c.requires.0 c.requires.1.0 (omega arith)).1.0, c.requires.1.1.0)

pub past_word-requires : goal.past_word-requires
past_word-requires c = (c.requires.1.0, (at_step c.requires.0 c.requires.1.0 (omega arith)).1.1)

pub turned-requires : goal.turned-requires
turned-requires c = subst (Left c.args.source.image.now c.args.source.payload.now) (sym c.past_word.ensures)
    (word_Left c.requires.0 (λ z. omega (arith, c.requires.1.0)) (omega arith) (at_step c.requires.0 c.requires.1.0 (omega arith)).0)

pub returns-then-bits-eq0 : goal.returns-then-bits-eq0
returns-then-bits-eq0 c = let t = at_step c.requires.0 c.requires.1.0 (omega arith) in
    cut_out c.requires.0 (λ z. omega (arith, c.requires.1.0)) (omega arith) t.0 c.args.bound _ (omega (arith, t.1.0, c.requires.1.1.0)) c.requires.1.1.1 c.requires.1.1.0
    (taken_away c.args.w.bits (c.args.bound - c.args.w.low) (omega arith)) c.if-bits-eq0.true
    (subst (λ (p : Rest). Turned c.args.source.image.now c.args.source.payload.now p c.turned.result) c.past_word.ensures c.turned.ensures)

pub met-requires : goal.met-requires
met-requires c = (at_step c.requires.0 c.requires.1.0 (omega arith)).1.1

pub returns : goal.returns
returns c = let t = at_step c.requires.0 c.requires.1.0 (omega arith) in
    subst (Cuts c.args.source.image.now c.args.source.payload.now c.args.w c.args.bound) (sym c.met.ensures)
    (cut_to c.requires.0 (λ z. omega (arith, c.requires.1.0)) (omega arith) t.0 c.args.bound _ (omega (arith, t.1.0, c.requires.1.1.0)) c.requires.1.1.1 c.requires.1.1.0
    (taken_away c.args.w.bits (c.args.bound - c.args.w.low) (omega arith)) c.if-bits-eq0.false)
