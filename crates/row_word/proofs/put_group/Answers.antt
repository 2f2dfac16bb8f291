-- `row_word::put_group` meets its contract: the table has the places and the number of the group's ones, and what is stored after them does not count.
-- Assumes nothing.
use mathlib.Core.Path.{refl, sym, ap, subst}
use Prim.Native.Nat.{ℕ, ◌+◌}
use Rattle.row.specs.Row.{bits_from}
use Rattle.row_word.specs.Groups.{group_bits, Loose}
use Rattle.row_word.proofs.Grouping.{table_count, group_Loose}
use Rattle.row_word.proofs.put_group.Goals as goal

pub returns : goal.returns
returns c = let n = table_count c.args.group _ c.requires.0 c.args.from _ refl in
    let l = group_Loose c.args.group _ c.args.from c.args.at c.args.out.now _ _ _ _ c.requires.0 c.from.ensures c.from-2.ensures c.from-3.ensures c.from-4.ensures in
    record {
      place = ap (λ (k : ℕ). c.args.at + k) n;
      loose = subst (Loose c.args.out.now c.args.at (bits_from group_bits c.args.from c.args.group)) (sym c.put_four.ensures) l;
    }
