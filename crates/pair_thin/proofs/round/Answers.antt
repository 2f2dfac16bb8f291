-- `pair_thin::round` meets its contract: the turns go by what both feeds show, and each feed shows a number again. Assumes nothing.
use native.Mathlib.Omega.{arith}
use Rattle.pair_thin.proofs.Coming.{first_Fed, second_Fed, round_Goes}
use Rattle.pair_thin.proofs.round.Goals as goal

pub offset_bounds-left-i : goal.offset_bounds-left-i
offset_bounds-left-i c = let f = first_Fed c.requires.ready.0 c.turns-t.ensures _ _ c.passed.ensures c.passed-2.ensures _ _ _ _ c.more-a.ensures c.more-b.ensures in
    omega (arith, f.within, c.more-a.ensures.1, c.requires.small.0.0.1)

pub bounds-left-i : goal.bounds-left-i
bounds-left-i c = let f = first_Fed c.requires.ready.0 c.turns-t.ensures _ _ c.passed.ensures c.passed-2.ensures _ _ _ _ c.more-a.ensures c.more-b.ensures in
    omega (arith, f.within, c.more-a.ensures.1)

pub offset_bounds-right-j : goal.offset_bounds-right-j
offset_bounds-right-j c = let f = second_Fed c.requires.ready.0 c.turns-t.ensures _ _ c.passed.ensures c.passed-2.ensures _ _ _ _ c.more-a.ensures c.more-b.ensures in
    omega (arith, f.within, c.more-b.ensures.1, c.requires.small.0.1.1)

pub bounds-right-j : goal.bounds-right-j
bounds-right-j c = let f = second_Fed c.requires.ready.0 c.turns-t.ensures _ _ c.passed.ensures c.passed-2.ensures _ _ _ _ c.more-a.ensures c.more-b.ensures in
    omega (arith, f.within, c.more-b.ensures.1)

pub returns : goal.returns
returns c = round_Goes c.requires.ready.0 c.turns-t.ensures _ _ c.passed.ensures c.passed-2.ensures _ _ _ _
    c.more-a.ensures c.more-b.ensures _ c.requires.ready.1 c.min.ensures
