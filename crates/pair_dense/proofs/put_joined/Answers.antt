-- `pair_dense::put_joined` meets its contract: a word that is 0 has no step. Assumes nothing.
use mathlib.Core.Path.{◌≡◌, sym, ap, ◌∙◌}
use mathlib.Core.List.{List, []}
use Prim.Native.Nat.{ℕ}
use native.Mathlib.Omega.{arith}
use lib.ListN.{length}
use lib.Seq.{sets}
use Rattle.lists.specs.Stores.{Puts}
use Rattle.row.specs.Row.{bits_from}
use Rattle.row.specs.Words.{word_bits}
use Rattle.row.proofs.Bits.{bits_zero}
use Rattle.pair_dense.proofs.put_joined.Goals as goal

stored-none : (word from at : ℕ) (steps : List ℕ) → word ≡ 0
    → Puts steps at (bits_from word_bits from word) steps at
stored-none word from at steps e =
    let q : bits_from word_bits from word ≡ [] = ap (bits_from word_bits from) e ∙ bits_zero word_bits from in
    record { place = omega (arith, ap length q); stores = sym (ap (sets steps at) q) }

pub returns-then-word-eq0 : goal.returns-then-word-eq0
returns-then-word-eq0 c = stored-none c.args.word c.args.from c.args.at c.args.steps.now c.if-word-eq0.true

pub returns : goal.returns
returns c = c.put_word.ensures
