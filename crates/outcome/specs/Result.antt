-- What becomes of a list of steps that an operation made: from its length and the lengths of the lent buffers how it ends, and from that the
-- answer and what the buffers then hold.
use Rattle.std.specs.Prelude.{◌≡◌, List, ◌++◌, ℕ, ◌≤◌, ltb, length, drop, Result, Ok, Err, ⊤}
use Rattle.lists.specs.Choice.{pick}
use Rattle.rules.specs.Limits.{most_steps}
use Rattle.rules.specs.Sizes.{work_for}
use Rattle.rules.specs.Refusals.{too_many_steps, steps_too_short, work_too_short, refusal}
use Rattle.rules.specs.declared.Refusal.{Refusal}
use Rattle.write.specs.Outcome.{paper_of, Outcome, stopped, unplaced, placed, placing, answer, work_after, out_after}
use Rattle.write.specs.declared.Counted.{Counted}

-- room for `n` steps: 13 at 0, then 16 at the number of steps, then 14 at the numbers of work needed
abbrev pub room_of : ℕ → ℕ → ℕ → Result ⊤ Refusal
room_of n steps work =
    pick (ltb most_steps n) (Err (refusal too_many_steps 0))
    (pick (ltb steps n) (Err (refusal steps_too_short n))
    (pick (ltb work (work_for n)) (Err (refusal work_too_short (work_for n))) (Ok tt)))

-- there is room for `n` steps, and they are no more than a list may have
pub record Roomy (n steps work : ℕ) : Type 0 where
  pub few : n ≤ most_steps
  pub steps_room : n ≤ steps
  pub work_room : work_for n ≤ work

-- the refusal that the test of the room says, or then 15 at the bytes of its shortest image
abbrev pub on_room : Result ⊤ Refusal → List ℕ → ℕ → Outcome
on_room (Err r) zs out = stopped r
on_room (Ok u) zs out = placing zs out

-- how the result `zs` ends: 13, 16, 14, 15
abbrev pub of_result : List ℕ → ℕ → ℕ → ℕ → Outcome
of_result zs steps work out = on_room (room_of (length zs) steps work) zs out

-- the step buffer: the result's steps in its first places after acceptance and after 15, and unchanged after any other refusal
abbrev pub steps_after : List ℕ → Outcome → List ℕ
steps_after steps (stopped r) = steps
steps_after steps (unplaced zs) = zs ++ drop (length zs) steps
steps_after steps (placed zs) = zs ++ drop (length zs) steps

-- what an end leaves: the answer, and the step buffer, the work area and the output afterwards
pub record Leaves (o : Outcome) (steps work out : List ℕ) (r : Result Counted Refusal) (steps' work' out' : List ℕ) : Type 0 where
  pub answers : paper_of r ≡ answer o
  pub stores : steps' ≡ steps_after steps o
  pub works : work' ≡ work_after work o
  pub outputs : out' ≡ out_after out o
