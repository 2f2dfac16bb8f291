-- `pair::counted_with` meets its contract: the test of the room leads to the promise's own case. Assumes nothing.
use mathlib.Core.Path.{sym, ◌∙◌, subst}
use Prim.Native.Nat.{ℕ}
use lib.ListN.{length}
use Rattle.rules.proofs.Passed.{passed}
use Rattle.outcome.specs.Result.{Roomy}
use Rattle.outcome.proofs.Results.{enough_Roomy}
use Rattle.pair.proofs.Outcomes.{Promise_refused}
use Rattle.pair.proofs.counted_with.Goals as goal

pub stored-requires : goal.stored-requires
stored-requires c = record {
  ready = record {
    first_taken = c.requires.0;
    second_taken = c.requires.1;
    room =
        subst (λ (n : ℕ). Roomy n (length c.args.steps.now) (length c.args.work.now)) c.count-n.ensures.counted
        (enough_Roomy (sym c.room_for.ensures ∙ c.in_ok-room_for.was));
  };
  held = c.count-n.ensures;
}

pub returns-in_err-room_for : goal.returns-in_err-room_for
returns-in_err-room_for c = Promise_refused c.args.op c.args.first.now c.args.second.now c.args.steps.now c.args.work.now c.args.out.now
    c.requires.0 c.requires.1 c.count-n.result c.count-n.ensures.counted (sym c.room_for.ensures ∙ c.in_err-room_for.was)
    (passed c.from_residual.result c.from_residual.ensures.1)
