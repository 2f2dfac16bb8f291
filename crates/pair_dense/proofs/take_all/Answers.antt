-- `pair_dense::take_all` meets its contract. The invariant: all of the result but what it has ahead is counted, and stored where that is wanted.
-- Assumes nothing.
use mathlib.Core.Path.{sym}
use native.Mathlib.Omega.{arith}
use Rattle.lists.proofs.Stores.{Storing_run, storing_end}
use Rattle.rules.specs.Limits.Laws.{largest_coded}
use Rattle.pair_window.proofs.Words.{words_empty}
use Rattle.pair_dense.specs.Inside.Words.{steps_in}
use Rattle.pair_dense.proofs.Walking.{Counting_start, Counting_run, counting_end, Storing_all, together_end}
use Rattle.pair_dense.proofs.Windows.{passes_length, passes_room}
use Rattle.pair_dense.proofs.take_all.Goals as goal

pub loop-m-init : goal.loop-m-init
loop-m-init g c =
    (c.start-m.ensures.together, Counting_start c.start-m.ensures c.args.op, λ t. Storing_all c.start-m.ensures c.args.op c.args.steps.now (c.requires t))

pub lay_both-m-requires : goal.lay_both-m-requires
lay_both-m-requires g c = let empty = sym (words_empty _ c.loop-m.m.next) in
    record { together = (c.loop-m.invariant.0, omega (arith, c.no_step-end.ensures)); left_value = (empty, (omega arith, omega arith)); right_value = (empty, omega arith) }

pub take_window-n-requires : goal.take_window-n-requires
take_window-n-requires g c = let n = passes_length c.lay_both-m.ensures c.args.op in
    record {
      left_len = (c.lay_both-m.ensures.same, (omega arith, omega (arith, c.no_step-end.ensures, largest_coded)));
      counted = omega (arith, n, c.loop-m.invariant.1.all, c.loop-m.invariant.1.few);
      room = λ t. passes_room c.lay_both-m.ensures c.args.op c.loop-m.n _ (c.loop-m.invariant.2 t).room;
    }

pub loop-m-smaller : goal.loop-m-smaller
loop-m-smaller g c = c.lay_both-m.ensures.past

pub loop-m-preserved : goal.loop-m-preserved
loop-m-preserved g c =
    let us = steps_in c.args.op c.loop-m.m.next c.lay_both-m.new.left c.lay_both-m.new.right in
    let turn = c.lay_both-m.ensures.turn c.args.op in
    let n = passes_length c.lay_both-m.ensures c.args.op in (
      c.lay_both-m.ensures.together,
      rw (c.take_window-n.ensures.counted) (Counting_run c.loop-m.invariant.1 _ _ n),
      λ t. Storing_run (c.loop-m.invariant.2 t) us _ turn c.take_window-n.ensures.counted (c.take_window-n.ensures.stored t),
    )

pub returns : goal.returns
returns g c =
    let none = together_end c.loop-m.invariant.0 c.args.op (omega (arith, c.no_step-end.ensures)) in
    record { counted = omega (arith, counting_end c.loop-m.invariant.1 none); stored = λ t. (storing_end (c.loop-m.invariant.2 t) none).stores }
