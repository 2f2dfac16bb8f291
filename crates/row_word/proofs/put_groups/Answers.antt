-- `row_word::put_groups` meets its contract: the groups from bit j on are still to be stored. Assumes nothing.
use native.Mathlib.Omega.{arith}
use Rattle.row_word.proofs.Grouping.{Grouping_start, grouping_room, Grouping_turn, grouping_end}
use Rattle.row_word.proofs.put_groups.Goals as goal

pub loop-j-init : goal.loop-j-init
loop-j-init c = Grouping_start c.args.word c.args.from c.args.out.now c.args.at

pub overflow_add-from : goal.overflow_add-from
overflow_add-from c = omega arith

pub put_group-k-requires : goal.put_group-k-requires
put_group-k-requires c = (omega arith, (omega arith, omega (arith, grouping_room c.loop-j.invariant, c.loop-j.invariant.loosely.same, c.requires.1)))

pub loop-j-smaller : goal.loop-j-smaller
loop-j-smaller c = omega arith

pub loop-j-preserved : goal.loop-j-preserved
loop-j-preserved c = Grouping_turn c.loop-j.invariant (omega arith) c.put_group-k.auto.out c.put_group-k.ensures

pub shape_of-out : goal.shape_of-out
shape_of-out c = c.loop-j.invariant.loosely.same

pub returns : goal.returns
returns c = grouping_end c.loop-j.invariant (omega arith)
