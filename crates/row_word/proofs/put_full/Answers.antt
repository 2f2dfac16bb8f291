-- `row_word::put_full` meets its contract: the bits from place j on are still to be stored. Assumes nothing.
use mathlib.Core.Path.{◌≡◌, refl, ap}
use mathlib.Core.List.{List, [], ◌∷◌}
use Prim.Native.Nat.{ℕ, ◌+◌, ◌-◌, ◌^◌}
use native.Mathlib.Omega.{arith}
use Rattle.lists.proofs.Stores.{Storing_start, Storing_run, storing_end}
use Rattle.row.specs.Row.{bits_from}
use Rattle.row.specs.Words.{word_bits}
use Rattle.row.proofs.Bits.{length_full, full_turn, full_end}
use Rattle.row_word.proofs.put_full.Goals as goal

pub loop-j-init : goal.loop-j-init
loop-j-init c = let z : c.args.from ≡ c.args.from + 0 = omega arith in
    let bits : List ℕ = bits_from word_bits c.args.from (2 ^ word_bits - 1) in
    let start = Storing_start c.args.out.now c.args.at bits (omega (arith, length_full word_bits c.args.from (2 ^ word_bits - 1) refl)) in
    Storing_run start [] (bits_from word_bits (c.args.from + 0) (2 ^ word_bits - 1)) (ap (λ (p : ℕ). bits_from word_bits p (2 ^ word_bits - 1)) z) refl refl

pub loop-j-preserved : goal.loop-j-preserved
loop-j-preserved c = let x = c.args.from + c.loop-j.j in
    let rest : List ℕ = bits_from (word_bits - (c.loop-j.j + 1)) (c.args.from + (c.loop-j.j + 1)) (2 ^ (word_bits - (c.loop-j.j + 1)) - 1) in
    Storing_run c.loop-j.invariant (x ∷ []) rest (full_turn word_bits c.loop-j.j c.args.from (omega arith)) (omega arith) refl

pub shape_of-out : goal.shape_of-out
shape_of-out c = c.loop-j.invariant.same

pub returns : goal.returns
returns c = record {
  place = omega (arith, length_full word_bits c.args.from (2 ^ word_bits - 1) refl);
  stores = (storing_end c.loop-j.invariant (full_end word_bits c.loop-j.j c.args.from (omega arith))).stores;
}
