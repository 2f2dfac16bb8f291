-- `code::put_short` meets its contract: the first of two bytes stays, and that of a single one is replaced. Assumes nothing.
use mathlib.Core.Path.{◌≡◌}
use mathlib.Core.List.{List}
use Prim.Native.Nat.{ℕ, ◌+◌, ◌/◌, ◌%◌, ◌<◌}
use native.Mathlib.Omega.{arith}
use borrow.Author.Rules.{rules}
use native.Mathlib.Numerals.{add-one}
use lib.ListN.{set, length-set}
use lib.Seq.{sets, set-set}
use Rattle.lists.proofs.Choice.{by_lt}
use Rattle.code.specs.Code.{one_group, two_groups, flag, code_of, code_size}
use Rattle.code.specs.Code.Inside.{code_one_byte, code_two_bytes, size_one, size_two}
use Rattle.code.proofs.Laws.{length_code}
use Rattle.code.proofs.put_short.Goals as goal
use Rattle.code.proofs.put_short.Goals.{After-from}

-- `m` bytes stand before the last
module _ (x m : ℕ) (l : x < two_groups) (e : (x / one_group ≡ 0 → m ≡ 0) × (0 < x / one_group → m ≡ 1)) where
  size-short : code_size x ≡ m + 1
  size-short =
      by_lt x one_group (λ h. omega (arith, size_one x h, e.0 (omega arith)))
      (λ h. omega (arith, size_two x h l, e.1 (omega arith)))

  stored_short : (out : List ℕ) (at : ℕ) → set (set out at (x / one_group + flag)) (at + m) (x % one_group) ≡ sets out at (code_of x)
  stored_short out at =
      by_lt x one_group
      (λ h.
      let p : at + m ≡ at = omega (arith, e.0 (omega arith)) in
      let q : x % one_group ≡ x = omega arith in
      rw (p, q, code_one_byte x h) (set-set out at (x / one_group + flag) x))
      (λ h.
      let p : at + m ≡ at + 1 = omega (arith, e.1 (omega arith)) in
      rw (p, add-one at, code_two_bytes x h l))

-- 1 more byte where the number has a second group
more : (c : After-from) → (c.args.x / one_group ≡ 0 → c.from.result ≡ 0) × (0 < c.args.x / one_group → c.from.result ≡ 1)
more c = search rules

size_is : (c : After-from) → code_size c.args.x ≡ c.from.result + 1
size_is c = size-short c.args.x c.from.result c.requires.0 (more c)

pub bounds-out-at : goal.bounds-out-at
bounds-out-at c = omega (arith, size_is (goal.at.bounds-out-at c).After-from)

pub bounds-out-last : goal.bounds-out-last
bounds-out-last c = simp length-set (omega (arith, size_is (goal.at.bounds-out-last c).After-from))

pub returns : goal.returns
returns c = record {
  place = omega (arith, size_is c, length_code c.args.x);
  stores = stored_short c.args.x c.from.result c.requires.0 (more c) c.args.out.now c.args.at;
}
