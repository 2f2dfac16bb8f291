-- `code::read` meets its contract. The bytes are passed one by one: after each that has the flag, the groups so far are worth what
-- the code has in `high`. Assumes nothing.
use mathlib.Core.Path.{refl, sym}
use Prim.Native.Nat.{◌+◌, ◌-◌}
use native.Mathlib.Omega.{arith}
use Rattle.code.specs.Code.{flag}
use Rattle.code.specs.Code.Inside.{read_none, read_padded, read_cut}
use Rattle.code.proofs.Fronts.{byte_at, read_starts, read_ends, after_one, after_two}
use Rattle.code.proofs.read.Goals as goal

pub returns-then-n-at : goal.returns-then-n-at
returns-then-n-at c = sym (read_none c.args.s.now c.args.at (omega arith))

pub returns-then-first-lt-FLAG : goal.returns-then-first-lt-FLAG
returns-then-first-lt-FLAG c =
    let s = c.args.s.now in
    let at = c.args.at in
    let a = c.from-first.result in
    sym (read_ends s at at 0 a a (at + 1) (read_starts s at a (omega arith) c.from-first.ensures (λ z. omega arith)) (omega arith) c.from-first.ensures (omega arith) (omega arith) refl)

pub returns-then-first-eq-FLAG : goal.returns-then-first-eq-FLAG
returns-then-first-eq-FLAG c =
    sym (read_padded c.args.s.now c.args.at (byte_at c.args.s.now c.args.at c.from-first.result (omega arith) c.from-first.ensures) (omega arith))

pub returns-then-n-at-le1 : goal.returns-then-n-at-le1
returns-then-n-at-le1 c =
    sym (read_cut (after_one c.args.s.now c.args.at c.from-first.result (omega arith) c.from-first.ensures (omega arith)) (omega arith))

pub returns-then-second-lt-FLAG : goal.returns-then-second-lt-FLAG
returns-then-second-lt-FLAG c =
    let s = c.args.s.now in
    let at = c.args.at in
    let a = c.from-first.result in
    let b = c.from-second.result in
    sym (read_ends s at (at + 1) (a - flag) b _ (at + 2) (after_one s at a (omega arith) c.from-first.ensures (omega arith)) (omega arith) c.from-second.ensures (omega arith) refl (omega arith))

pub read_long-requires : goal.read_long-requires
read_long-requires c = (
  omega arith,
  (omega arith, after_two c.args.s.now c.args.at c.from-first.result c.from-second.result (omega arith) c.from-first.ensures (omega arith) c.from-second.ensures (omega arith)),
)
