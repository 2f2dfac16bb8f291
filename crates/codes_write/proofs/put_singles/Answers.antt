-- `codes_write::put_singles` meets its contract. The invariant: the codes have been stored, but for those of the steps from rank `i` on, each a
-- single byte. Assumes nothing.
use mathlib.Core.Path.{◌≡◌, refl, subst}
use mathlib.Core.List.{[], ◌∷◌}
use Prim.Native.Nat.{ℕ, ◌+◌, ◌-◌, ◌<◌}
use native.Mathlib.Omega.{arith}
use lib.ListN.{length, get_or, drop}
use Rattle.lists.specs.Stores.{Puts}
use Rattle.lists.proofs.Stores.{Storing_run, storing_room, storing_end}
use Rattle.code.specs.Code.{one_group}
use Rattle.codes.specs.Codes.{codes_for}
use Rattle.codes_write.specs.Inside.Groups.{Near}
use Rattle.codes_write.proofs.Writing.{Next, next, codes_none}
use Rattle.codes_write.proofs.Groups.{Near_uncons, Near_codes}
use Rattle.codes_write.proofs.put_singles.Goals as goal
use Rattle.codes_write.proofs.put_singles.Goals.{In-loop-i}

-- the step of this turn, whose code is a single byte
this : (c : In-loop-i) → Next c.loop-i.next c.args.list.now c.loop-i.i
this c =
    next c.loop-i.next c.args.list.now c.loop-i.i (omega arith) c.loop-i.invariant.1 c.loop-i.invariant.2

codes : (c : In-loop-i) → codes_for c.loop-i.next (drop c.loop-i.i c.args.list.now) ≡ (get_or c.args.list.now c.loop-i.i 0 - c.loop-i.next) ∷ codes_for (get_or c.args.list.now c.loop-i.i 0 + 1) (drop (c.loop-i.i + 1) c.args.list.now)
codes c =
    Near_codes c.loop-i.next c.args.list.now c.loop-i.i (omega arith) (this c) c.loop-i.invariant.3

near : (c : In-loop-i) → (get_or c.args.list.now c.loop-i.i 0 - c.loop-i.next < one_group) × Near (get_or c.args.list.now c.loop-i.i 0 + 1) (drop (c.loop-i.i + 1) c.args.list.now)
near c =
    Near_uncons c.loop-i.next c.args.list.now c.loop-i.i (omega arith) c.loop-i.invariant.3

pub overflow_sub-out : goal.overflow_sub-out
overflow_sub-out c = (this (goal.at.overflow_sub-out c).In-loop-i).least

pub overflow_cast-out : goal.overflow_cast-out
overflow_cast-out c = omega (arith, (near (goal.at.overflow_cast-out c).In-loop-i).0)

pub bounds-out-at : goal.bounds-out-at
bounds-out-at c = storing_room c.loop-i.invariant.0 _ _ (codes (goal.at.bounds-out-at c).In-loop-i)

pub overflow_add-next : goal.overflow_add-next
overflow_add-next c = omega (arith, (this (goal.at.overflow_add-next c).In-loop-i).small)

pub loop-i-preserved : goal.loop-i-preserved
loop-i-preserved c =
    let i = (goal.at.loop-i-preserved c).In-loop-i in
    let t = this i in
    (Storing_run c.loop-i.invariant.0 (_ ∷ []) _ (codes i) (omega arith) refl, t.rising, t.end, (near i).1)

pub returns : goal.returns
returns c =
    let e : c.loop-i.i ≡ length c.args.list.now = omega (arith, c.loop-i.auto.i-end) in
    subst (λ (n : ℕ). Puts c.args.out.now c.args.at (codes_for c.args.from c.args.list.now) c.loop-i.out (c.args.at + n)) e
    (storing_end c.loop-i.invariant.0 (codes_none c.loop-i.next c.args.list.now c.loop-i.i (omega arith)))
