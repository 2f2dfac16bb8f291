-- `pair_lay::lay_codes` meets its contract: the walk's step is marked and passed, and so are those of short codes after it. Assumes nothing.
use Prim.Native.Nat.{◌-◌, ◌<◌}
use native.Mathlib.Omega.{arith}
use Rattle.lists.proofs.Choice.{by_lt}
use Rattle.rules.specs.Limits.{no_step}
use Rattle.image_walk.proofs.Ahead.{later_from}
use Rattle.pair_lay_row.specs.Lays.{Lays}
use Rattle.pair_lay.proofs.Running.{Lays_code, Lays_run}
use Rattle.pair_lay.proofs.lay_codes.Goals as goal
use Rattle.pair_lay.proofs.lay_codes.Goals.{After-next_code-v}

-- the walk's own step is laid
first-laid : (c : After-next_code-v) → Lays c.args.source.image.now c.args.source.payload.now c.args.w c.args.from c.args.words.now c.mark.new.words c.next_code-v.result
first-laid c =
    Lays_code (c.args.w.step - c.args.from) (omega (arith, c.requires.1.0.0)) c.requires.1.0.1.0 c.mark.ensures c.next_code-v.ensures.0 c.next_code-v.ensures.1

pub returns-then-v : goal.returns-then-v
returns-then-v c = first-laid (goal.at.returns-then-v c).After-next_code-v

pub returns-then-v-ne0 : goal.returns-then-v-ne0
returns-then-v-ne0 c = first-laid (goal.at.returns-then-v-ne0 c).After-next_code-v

pub lay_run-requires : goal.lay_run-requires
lay_run-requires c = let l = first-laid (goal.at.lay_run-requires c).After-next_code-v in record {
  placed = (c.next_code-v.ensures.0.placed, (c.if-v-ne0.false, omega (arith, c.if-v.false)));
  from_le_step = (
    later_from c.args.source.image.now c.args.source.payload.now c.args.w c.requires.0 (omega arith) c.args.from l.laid c.next_code-v.result c.requires.1.0.0 l.split,
    omega (arith, c.requires.1.0),
  );
}

pub returns : goal.returns
returns c =
    -- a code is left, so there is a step
    let on : c.next_code-v.result.step < no_step =
    by_lt c.next_code-v.result.step no_step (λ h. h) (λ h. absurd (omega (arith, c.if-v.false, (c.next_code-v.ensures.0.placed.off h).at))) in
    Lays_run (first-laid (goal.at.returns c).After-next_code-v) (omega arith) on c.lay_run.ensures
