-- `row::end` meets its contract: the bytes after the last that is not 0 have no ones. Assumes nothing.
use Rattle.std.proofs.Common.{rules, ◌≡◌, ℕ, ◌<◌, length, get_or}
use Rattle.std.proofs.iter.runs.Made.{chains}
use native.Mathlib.Omega.{arith}
use mathlib.Core.Path.{sym, ap}
use Rattle.lists.specs.Rising.{beyond}
use Rattle.row.proofs.Places.{row_zeros, last_here}
use Rattle.row.proofs.end.Goals as goal
use Rattle.row.proofs.end.Goals.{In-Some, In-None}

all_zero : (c : In-None) → (k : ℕ) → k < length c.args.part.now → get_or c.args.part.now k 0 ≡ 0
all_zero c k h = search (rules, chains)

after_zero : (c : In-Some) → (k : ℕ) → c.in-Some.i < k → k < length c.args.part.now → get_or c.args.part.now k 0 ≡ 0
after_zero c k g h = search (rules, chains)

here : (c : In-Some) → get_or c.args.part.now c.in-Some.i 0 ≡ 0 → ⊥
here c h = search (rules, chains)

pub returns-in-Some : goal.returns-in-Some
returns-in-Some c = last_here c.args.part.now c.in-Some.i (omega (arith, c.in-Some.ensures.bound)) (after_zero (goal.at.returns-in-Some c).In-Some) (here (goal.at.returns-in-Some c).In-Some) (c.type_inv.part c.in-Some.i).fits

pub returns-in-None : goal.returns-in-None
returns-in-None c = sym (ap (beyond 0) (row_zeros 0 c.args.part.now (all_zero c)))
