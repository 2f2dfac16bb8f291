-- `row_write::put` meets its contract: the marks of the steps after the first `i` times eight are left, in bytes that were 0 at first. Assumes nothing.
use mathlib.Core.Path.{◌≡◌, refl, sym, ap, ◌∙◌}
use Prim.Native.Nat.{ℕ, ◌+◌, ◌*◌, ◌/◌}
use native.Mathlib.Omega.{arith}
use lib.ListN.{length, drop}
use Rattle.row.specs.Row.{byte_bits}
use Rattle.row_write.specs.Inside.Marks.{marked}
use Rattle.row_write.proofs.Marking.{marked_start, mark_start, marked_end}
use Rattle.row_write.proofs.put.Goals as goal

pub loop-i-init : goal.loop-i-init
loop-i-init c = let m = mark_start c.args.from c.args.at _ c.args.list.now c.args.out.now _ c.requires.0 c.size-bytes.ensures.0 c.requires.1 c.clear.ensures (λ j. (c.slice_known-1.given j).fits) in
    (refl, m, refl)

pub returns : goal.returns
returns c = let q : byte_bits * (length c.args.list.now / byte_bits) ≡ byte_bits * c.loop-i.i = omega arith in
    record {
      place = ap (λ (k : ℕ). c.args.at + k) c.size-bytes.ensures.0;
      stores =
          sym (marked_end c.args.from c.args.at (length c.args.list.now) c.args.list.now _ (omega arith))
          ∙ c.mark.ensures
          ∙ ap (λ (k : ℕ). marked c.args.from c.args.at (drop k c.args.list.now) c.loop-i.out) q
          ∙ c.loop-i.invariant.2
          ∙ marked_start c.args.from c.args.at _ c.args.list.now c.args.out.now _ c.requires.0 c.size-bytes.ensures.0 c.requires.1 c.clear.ensures;
    }
