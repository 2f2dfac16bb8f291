-- `row_word::put_many` meets its contract: what stood after the steps stands there again. Assumes nothing.
use mathlib.Core.Path.{◌≡◌, refl, sym, ap, ◌∙◌}
use mathlib.Core.List.{List}
use Prim.Native.Nat.{ℕ, ◌+◌}
use native.Mathlib.Omega.{arith}
use lib.ListN.{length}
use Rattle.row.specs.Row.{bits_from}
use Rattle.row.specs.Words.{word_bits}
use Rattle.row.proofs.Bits.{length_bits_moved}
use Rattle.row_word.proofs.Loosely.{put_back}
use Rattle.row_word.proofs.put_many.Goals as goal

-- the ones that were counted
all_ones : (o v n : ℕ) → n ≡ length (bits_from word_bits 0 v) → n ≡ length (bits_from word_bits o v)
all_ones o v n e = e ∙ sym (length_bits_moved word_bits o v)

pub bounds-out-end : goal.bounds-out-end
bounds-out-end c = omega (arith, all_ones c.args.from c.args.word _ c.ones.ensures.0)

pub bounds-out-end-2 : goal.bounds-out-end-2
bounds-out-end-2 c = omega (arith, all_ones c.args.from c.args.word _ c.ones.ensures.0)

pub bounds-out-end-3 : goal.bounds-out-end-3
bounds-out-end-3 c = omega (arith, all_ones c.args.from c.args.word _ c.ones.ensures.0)

pub bounds-out-end-4 : goal.bounds-out-end-4
bounds-out-end-4 c = omega (arith, all_ones c.args.from c.args.word _ c.ones.ensures.0)

pub returns : goal.returns
returns c = let bits : List ℕ = bits_from word_bits c.args.from c.args.word in
    let n = all_ones c.args.from c.args.word _ c.ones.ensures.0 in
    record {
      place = c.put_groups-k.ensures.place;
      stores = c.put_four.ensures ∙ put_back c.args.out.now c.args.at bits _ _ _ _ _ _ _ c.put_groups-k.ensures.loose (ap (λ (k : ℕ). c.args.at + k) n) c.put_groups-k.ensures.place refl refl refl refl;
    }
