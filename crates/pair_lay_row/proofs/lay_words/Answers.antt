-- `pair_lay_row::lay_words` meets its contract: each turn lays the next word of the row, and the row's last is left. Assumes nothing.
use mathlib.Core.Path.{◌≡◌, ap, ◌∙◌, subst}
use Prim.Native.Nat.{ℕ, ◌+◌, ◌*◌}
use native.Mathlib.Omega.{arith}
use Rattle.rules.specs.Numbers.{little}
use Rattle.row.specs.Words.{word_bytes}
use Rattle.pair_lay_row.proofs.Laying.{Rowing, word_part, rowing_turn, Rows_laid}
use Rattle.pair_lay_row.proofs.lay_words.Goals as goal

pub loop-i-preserved : goal.loop-i-preserved
loop-i-preserved c = let at = c.args.p.at + word_bytes * c.loop-i.i in
    rowing_turn c.args.payload.now c.args.p c.args.from c.args.words.now c.loop-i.i c.loop-i.words c.loop-i.invariant
    (λ j. omega (arith, c.type_inv.payload j)) c.requires.from_le_from.0 c.word-bits.result
    (c.word-bits.ensures ∙ ap little (word_part c.args.payload.now at c.args.p.end (omega arith))) _ (omega arith) c.lay.ensures

pub returns : goal.returns
returns c = let e : c.loop-i.i ≡ c.fitting-count.result = omega arith in
    Rows_laid c.args.payload.now c.args.p c.requires.readable.0 c.requires.readable.1 c.args.from c.args.words.now c.loop-i.words c.fitting-count.result
    (subst (λ (i : ℕ). Rowing c.args.payload.now c.args.p c.args.from c.args.words.now i c.loop-i.words) e c.loop-i.invariant) c.fitting-count.ensures.1 (omega arith)
