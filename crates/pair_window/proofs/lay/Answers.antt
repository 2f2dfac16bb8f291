-- `pair_window::lay` meets its contract: one word or two have the bits that fall into them. Assumes nothing.
use mathlib.Core.Path.{sym}
use mathlib.Core.List.{List}
use Prim.Native.Nat.{ℕ, ◌+◌, ◌/◌}
use native.Mathlib.Omega.{arith}
use Rattle.row.specs.Row.{bits_from}
use Rattle.row.specs.Words.{word_bits}
use Rattle.pair_window.proofs.Laying.{words_one, words_two, laid_here, laid_next, laid_before, laid_other}
use Rattle.pair_window.proofs.lay.Goals as goal

pub returns-then-i-count : goal.returns-then-i-count
returns-then-i-count c o xs e = let v : ℕ = c.args.bits in
    let ys : List ℕ = bits_from word_bits (o + c.args.place) v in
    words_two c.args.words.now o xs ys e (c.args.place / word_bits) _ (sym (laid_here o c.args.place v c.ranges.bits.fits)) _ (omega arith) (sym (laid_next o c.args.place v c.ranges.bits.fits)) (laid_other o c.args.place v)

pub returns-else-i-count : goal.returns-else-i-count
returns-else-i-count c o xs e = let v : ℕ = c.args.bits in
    let ys : List ℕ = bits_from word_bits (o + c.args.place) v in
    words_one c.args.words.now o xs ys e (c.args.place / word_bits) _ (sym (laid_here o c.args.place v c.ranges.bits.fits)) (omega arith)
    (λ j l n. laid_before o c.args.place v j (omega arith))
