-- `plan::Tail::choice` meets its contract: the fewest bytes of codes and of a row with the rest are known, and the scans say the largest ends
-- that have them.
-- Assumes nothing.
use native.Mathlib.Omega.{arith}
use Rattle.plan.proofs.Ranks.{fits}
use Rattle.plan.proofs.First.{choose_codes, choose_row, choose_longer_codes, choose_longer_row}
use Rattle.plan.proofs.Tail.choice.Goals as goal

pub returns-then-codes-row : goal.returns-then-codes-row
returns-then-codes-row c = choose_codes c.args.self.now.ready.listed c.codes-codes.ensures c.row-row.ensures c.if-codes-row.true c.codes_end.ensures c.new.ensures

pub row_end-upto-requires : goal.row_end-upto-requires
row_end-upto-requires c = omega (arith, c.row-row.ensures, (fits c.args.self.now.ready.listed c.args.self.now.rank (omega arith)).reach)

pub returns-then-row-codes : goal.returns-then-row-codes
returns-then-row-codes c = choose_row c.args.self.now.ready.listed c.codes-codes.ensures c.row-row.ensures c.if-row-codes.true c.row_end-upto.ensures c.new-then-row-codes.ensures

pub returns-then-other-upto : goal.returns-then-other-upto
returns-then-other-upto c = choose_longer_row c.args.self.now.ready.listed c.codes-codes.ensures c.row-row.ensures (omega arith) c.codes_end-other.ensures c.row_end-upto.ensures
    c.if-other-upto.true c.new-then-other-upto.ensures

pub returns : goal.returns
returns c = choose_longer_codes c.args.self.now.ready.listed c.codes-codes.ensures c.row-row.ensures (omega arith) c.codes_end-other.ensures c.row_end-upto.ensures
    c.if-other-upto.false c.new-2.ensures
