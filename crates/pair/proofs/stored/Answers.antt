-- `pair::stored` meets its contract: the front of the stored steps is the list that is written. Assumes nothing.
use mathlib.Core.Path.{◌≡◌, sym, subst}
use Prim.Native.Nat.{ℕ}
use native.Mathlib.Omega.{arith}
use lib.ListN.{take}
use Rattle.rules.specs.Listed.{Listed}
use Rattle.image.specs.Taken.{steps_of}
use Rattle.image.proofs.Taken.{steps_Listed}
use Rattle.outcome.specs.Result.{Roomy}
use Rattle.outcome.proofs.Leaving.{stored_front, stored_Roomy}
use Rattle.pair_operation.specs.Result.{result_of}
use Rattle.pair_operation.proofs.Result.{result_Listed}
use Rattle.pair.proofs.Outcomes.{Promise_written}
use Rattle.pair.proofs.stored.Goals as goal
use Rattle.pair.proofs.stored.Goals.{After-write_front-arg-2-1}

-- the result is one of document 01's lists
listed : (c : After-write_front-arg-2-1) → Listed (result_of c.args.op (steps_of c.args.first.now) (steps_of c.args.second.now))
listed c =
    result_Listed c.args.op (steps_Listed c.args.first.now (λ i. omega (arith, c.type_inv.first i)) c.requires.ready.first_taken)
    (steps_Listed c.args.second.now (λ i. omega (arith, c.type_inv.second i)) c.requires.ready.second_taken) c.requires.ready.room.few

-- the front of the stored steps is the result
front : (c : After-write_front-arg-2-1) → take c.store-k.result c.store-k.new.steps ≡ result_of c.args.op (steps_of c.args.first.now) (steps_of c.args.second.now)
front c =
    stored_front c.args.steps.now c.args.work.now c.args.out.now (result_of c.args.op (steps_of c.args.first.now) (steps_of c.args.second.now)) c.store-k.result
    c.store-k.ensures.0 c.store-k.ensures.1

-- there is room for as many steps as were stored
roomy : {n k steps work : ℕ} → k ≡ n → Roomy n steps work → Roomy k steps work
roomy {steps = s} {work = w} e r = subst (λ (k : ℕ). Roomy k s w) (sym e) r

pub write_front-requires : goal.write_front-requires
write_front-requires c = (
  subst Listed (sym (front c)) (listed c),
  stored_Roomy c.args.steps.now c.args.work.now c.args.out.now (result_of c.args.op (steps_of c.args.first.now) (steps_of c.args.second.now))
      c.store-k.result c.store-k.ensures.0 c.store-k.ensures.1 (roomy c.store-k.ensures.0 c.requires.ready.room),
)

pub returns : goal.returns
returns c = Promise_written c.args.op c.args.first.now c.args.second.now c.args.steps.now c.args.work.now c.args.out.now
    c.requires.ready.first_taken c.requires.ready.second_taken c.store-k.result c.store-k.ensures.0 c.store-k.ensures.1 (roomy c.store-k.ensures.0 c.requires.ready.room) c.write_front.ensures
