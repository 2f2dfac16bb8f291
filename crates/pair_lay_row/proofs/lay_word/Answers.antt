-- `pair_lay_row::lay_word` meets its contract: the word from its lowest one on is the word, what falls past the window leaves no bit, and where the
-- word ends within the window so may others after it.
-- Assumes nothing.
use mathlib.Core.Path.{◌≡◌, sym, ap, subst}
use Prim.Native.Nat.{◌+◌, ◌-◌, ◌/◌, ◌^◌}
use native.Mathlib.Omega.{arith}
use lib.ListN.{length}
use Rattle.rules.specs.Limits.Laws.{largest_coded}
use Rattle.row.specs.Words.{word_bits}
use Rattle.image_walk.specs.declared.Rest.{Rest}
use Rattle.image_walk.specs.Turns.{Readable}
use Rattle.pair_lay_row.specs.Inside.Rows.{Rows}
use Rattle.pair_lay_row.proofs.Cutting.{shifted, word_Left}
use Rattle.pair_lay_row.proofs.Placing.{rows_left, Lays_word, Lays_words}
use Rattle.pair_lay_row.proofs.lay_word.Goals as goal

pub overflow_add-bound : goal.overflow_add-bound
overflow_add-bound c = omega (arith, c.requires.1.0, largest_coded)

pub overflow_sub-w-2 : goal.overflow_sub-w-2
overflow_sub-w-2 c = (shifted c.requires.0 c.requires.1.1 (omega arith)).0

pub overflow_shr-w : goal.overflow_shr-w
overflow_shr-w c = (shifted c.requires.0 c.requires.1.1 (omega arith)).1.0

pub overflow_add-w : goal.overflow_add-w
overflow_add-w c = omega (arith, (shifted c.requires.0 c.requires.1.1 (omega arith)).0, c.requires.1.0, largest_coded)

pub returns-then-bound-w : goal.returns-then-bound-w
returns-then-bound-w c = Lays_word (c.args.w.step - c.args.from) (c.args.w.bits / 2 ^ (c.args.w.step - c.args.w.low)) (omega (arith, c.requires.1.0.0)) (shifted c.requires.0 c.requires.1.1 (omega arith)).1.1 c.lay.ensures c.past_below.ensures

pub past_word-requires : goal.past_word-requires
past_word-requires c = (c.requires.1.1, omega (arith, (shifted c.requires.0 c.requires.1.1 (omega arith)).0, c.requires.1.0, largest_coded))

pub lay_words-q-requires : goal.lay_words-q-requires
lay_words-q-requires c = let n : length c.lay.new.words ≡ length c.args.words.now = omega arith in
    let from : c.past_word.result.from ≡ c.args.w.low + word_bits = ap (λ (q : Rest). q.from) c.past_word.ensures in
    let kind : c.past_word.result.kind ≡ c.args.w.bits = ap (λ (q : Rest). q.kind) c.past_word.ensures in record { readable = (subst (Readable c.args.source.payload.now) (sym c.past_word.ensures) (word_Left c.requires.0 (λ z. omega (arith, c.requires.1.1)) (omega arith) c.requires.1.0.1.1.0).readable, λ z. omega (arith, kind, c.requires.1.1)); from_le_from = (omega (arith, from, (shifted c.requires.0 c.requires.1.1 (omega arith)).1.0, c.requires.1.0.0), (omega (arith, from, n, c.if-bound-w.false), (omega (arith, c.requires.1.0, largest_coded), omega (arith, n, c.requires.1.0)))) }

pub turned-requires : goal.turned-requires
turned-requires c = rows_left c.args.source.image.now (subst (λ (p : Rest). Rows c.args.source.payload.now p c.args.from c.lay.new.words c.lay_words-q.new.words c.lay_words-q.result) c.past_word.ensures c.lay_words-q.ensures) (word_Left c.requires.0 (λ z. omega (arith, c.requires.1.1)) (omega arith) c.requires.1.0.1.1.0)

pub returns : goal.returns
returns c = Lays_words (c.args.w.step - c.args.from) (c.args.w.bits / 2 ^ (c.args.w.step - c.args.w.low)) c.lay_words-q.result _ (omega (arith, c.requires.1.0.0)) (shifted c.requires.0 c.requires.1.1 (omega arith)).1.1 (omega arith) c.lay.ensures
    (subst (λ (p : Rest). Rows c.args.source.payload.now p c.args.from c.lay.new.words c.lay_words-q.new.words c.lay_words-q.result) c.past_word.ensures c.lay_words-q.ensures) c.turned.ensures c.requires.0 (λ z. omega (arith, c.requires.1.1)) (omega arith) c.requires.1.0.1.1.0 (omega arith)
