-- `code::put` meets its contract: a short code is stored by `put_short`, and in the two other cases the stores are the run of the code's
-- bytes. Assumes nothing.
use native.Mathlib.Omega.{arith}
use native.Mathlib.Numerals.{add-one, add-two, add-three}
use lib.ListN.{length-set}
use Rattle.code.specs.Code.Inside.{code_three_bytes, code_four_bytes, size_three, size_four}
use Rattle.code.proofs.Laws.{length_code}
use Rattle.code.proofs.put.Goals as goal

pub bounds-out-at : goal.bounds-out-at
bounds-out-at c = omega (arith, size_three c.args.x (omega arith) (omega arith))

pub bounds-out-at-then-x-lt-THREE_GROUPS : goal.bounds-out-at-then-x-lt-THREE_GROUPS
bounds-out-at-then-x-lt-THREE_GROUPS c = simp length-set (omega (arith, size_three c.args.x (omega arith) (omega arith)))

pub bounds-out-at-then-x-lt-THREE_GROUPS-2 : goal.bounds-out-at-then-x-lt-THREE_GROUPS-2
bounds-out-at-then-x-lt-THREE_GROUPS-2 c = simp length-set (omega (arith, size_three c.args.x (omega arith) (omega arith)))

pub returns-then-x-lt-THREE_GROUPS : goal.returns-then-x-lt-THREE_GROUPS
returns-then-x-lt-THREE_GROUPS c = record {
  place = omega (arith, size_three c.args.x (omega arith) (omega arith), length_code c.args.x);
  stores = simp (code_three_bytes c.args.x (omega arith) (omega arith), add-one, add-two);
}

pub bounds-out-at-2 : goal.bounds-out-at-2
bounds-out-at-2 c = omega (arith, size_four c.args.x (omega arith))

pub bounds-out-at-3 : goal.bounds-out-at-3
bounds-out-at-3 c = simp length-set (omega (arith, size_four c.args.x (omega arith)))

pub bounds-out-at-4 : goal.bounds-out-at-4
bounds-out-at-4 c = simp length-set (omega (arith, size_four c.args.x (omega arith)))

pub bounds-out-at-5 : goal.bounds-out-at-5
bounds-out-at-5 c = simp length-set (omega (arith, size_four c.args.x (omega arith)))

pub returns : goal.returns
returns c = record {
  place = omega (arith, size_four c.args.x (omega arith), length_code c.args.x);
  stores = simp (code_four_bytes c.args.x (omega arith), add-one, add-two, add-three);
}
