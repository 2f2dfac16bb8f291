-- `code::read_long` meets its contract. The bytes are passed one by one: after the third, if it has the flag, the groups so far are worth what
-- the code has in `higher` and that byte. Assumes nothing.
use mathlib.Core.Path.{refl, sym}
use Prim.Native.Nat.{◌+◌, ◌-◌, ◌*◌}
use native.Mathlib.Omega.{arith}
use Rattle.code.specs.Code.{one_group, flag}
use Rattle.code.specs.Code.Inside.{Reached, read_cut, read_long}
use Rattle.code.proofs.Fronts.{byte_at, read_ends, after_three}
use Rattle.code.proofs.read_long.Goals as goal

pub returns-then-left-le2 : goal.returns-then-left-le2
returns-then-left-le2 c = sym (read_cut c.requires.1.1 (omega arith))

pub returns-then-third-lt-FLAG : goal.returns-then-third-lt-FLAG
returns-then-third-lt-FLAG c =
    sym (read_ends c.args.s.now c.args.at (c.args.at + 2) c.args.high c.from-third.result _ _ c.requires.1.1 (omega arith) c.from-third.ensures (omega arith) refl (omega arith))

pub returns-then-left-le3 : goal.returns-then-left-le3
returns-then-left-le3 c =
    sym (read_cut (after_three c.args.s.now c.args.at c.args.high c.from-third.result c.requires.1.1 (omega arith) c.from-third.ensures (omega arith)) (omega arith))

pub returns-then-fourth-lt-FLAG : goal.returns-then-fourth-lt-FLAG
returns-then-fourth-lt-FLAG c =
    let three = after_three c.args.s.now c.args.at c.args.high c.from-third.result c.requires.1.1 (omega arith) c.from-third.ensures (omega arith) in
    sym (read_ends c.args.s.now c.args.at (c.args.at + 3) (c.args.high * one_group + (c.from-third.result - flag)) c.from-fourth.result _ _ three (omega arith) c.from-fourth.ensures (omega arith) refl (omega arith))

pub returns : goal.returns
returns c =
    let three = after_three c.args.s.now c.args.at c.args.high c.from-third.result c.requires.1.1 (omega arith) c.from-third.ensures (omega arith) in
    sym (read_long (byte_at c.args.s.now (c.args.at + 3) c.from-fourth.result (omega arith) c.from-fourth.ensures) three (omega arith))
