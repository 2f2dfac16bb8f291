-- `row_read::steps` meets its contract: a short row as a whole, a longer one up to its last bytes and from there on. Assumes nothing.
use mathlib.Core.Path.{sym, ap, ◌∙◌}
use mathlib.Core.List.{List}
use Prim.Native.Nat.{ℕ, ◌+◌, ◌-◌, ◌*◌}
use native.Mathlib.Omega.{arith}
use lib.ListN.{length, take, drop, length-drop}
use lib.Seq.{sets, length-take-le}
use Rattle.lists.proofs.Stores.{sets-append}
use Rattle.row.specs.Row.{byte_bits, row_steps}
use Rattle.row.proofs.Row.{row_parts, length_row_parts}
use Rattle.row_read.proofs.steps.Goals as goal

pub steps_in-k-requires : goal.steps_in-k-requires
steps_in-k-requires c = let n : ℕ = length c.args.part.now - 16 in (
  omega (arith, length-take-le n c.args.part.now (omega arith), c.requires.0),
  omega (arith, length_row_parts c.args.from c.args.part.now n (omega arith), c.requires.1),
)

pub steps_exact-requires-2 : goal.steps_exact-requires-2
steps_exact-requires-2 c = let n : ℕ = length c.args.part.now - 16 in (
  omega (arith, length-take-le (length c.args.part.now - n) (drop n c.args.part.now) (omega (arith, length-drop n c.args.part.now)), c.requires.0),
  omega (arith, c.steps_in-k.ensures.place, c.steps_in-k.auto.out, length_row_parts c.args.from c.args.part.now n (omega arith), c.requires.1),
)

pub returns : goal.returns
returns c = let n : ℕ = length c.args.part.now - 16 in
    let one : List ℕ = row_steps c.args.from (take n c.args.part.now) in
    let other : List ℕ = row_steps (c.args.from + byte_bits * n) (take (length c.args.part.now - n) (drop n c.args.part.now)) in
    record {
      place = omega (arith, c.steps_exact-2.ensures.place, c.steps_in-k.ensures.place, length_row_parts c.args.from c.args.part.now n (omega arith));
      stores =
          c.steps_exact-2.ensures.stores
          ∙ ap (λ (l : List ℕ). sets l c.steps_in-k.result other) c.steps_in-k.ensures.stores
          ∙ ap (λ (k : ℕ). sets (sets c.args.out.now c.args.at one) k other) c.steps_in-k.ensures.place
          ∙ sym (sets-append c.args.out.now c.args.at one other)
          ∙ ap (sets c.args.out.now c.args.at) (sym (row_parts c.args.from c.args.part.now n (omega arith)));
    }
