-- The fields lose nothing: from each exported function's struct comes back the answer that the function which it wraps promises. So the
-- number of its refusal is 0 exactly where the answer accepts.
-- Assumes nothing.
use mathlib.Core.Path.{◌≡◌, refl}
use mathlib.Core.List.{List}
use Prim.Native.Nat.{ℕ, ◌<◌, ◌*◌}
use native.Mathlib.Omega.{arith}
use borrow.Author.Tests.{ne_eqb}
use lib.Dec.{ltb}
use lib.ListN.{length, replicate, length-replicate}
use Rattle.std.specs.Prelude.{Result, Ok, Err, ⊤}
use Rattle.lists.specs.Below.{below}
use Rattle.lists.proofs.Choice.{either_way}
use Rattle.rules.specs.declared.Refusal as rules
use Rattle.rules.specs.Sizes.{work_for}
use Rattle.rules.specs.Refusals.{refusal, rank_too_large, no_such_cursor, steps_too_short, output_too_short, not_in_the_year}
use Rattle.rules.specs.Paper.{Paper, refusing}
use Rattle.image.specs.Verdict.{Verdict, taken, refused, verdict}
use Rattle.image.proofs.Named.{NamedVerdict, named_verdict}
use Rattle.clock.specs.Clock as clock
use Rattle.read.specs.Read as read
use Rattle.write_list.specs.Tests.{test_of}
use Rattle.write_list.proofs.Tests.{NamedTest, test_named}
use Rattle.write.specs.Written.{image_for}
use Rattle.write.specs.Outcome.{values, Outcome, stopped, unplaced, placed, placing, answer}
use Rattle.write.specs.Promise as write
use Rattle.ask.specs.Rank as rank
use Rattle.ask.specs.First as first
use Rattle.ask.specs.Cursor as cursor
use Rattle.pair_operation.specs.declared.Operation.{Operation}
use Rattle.pair_operation.specs.Result.{result_of}
use Rattle.outcome.specs.Result.{room_of, on_room, of_result}
use Rattle.outcome.proofs.Results.{NamedRoom, room_named}
use Rattle.pair.specs.Promise as pair
use Rattle.answers.specs.Fields.{refusal_of, telling, counted_of, ranked_of, first_of, moved_of, clocked_of, checked_paper, counted_paper, ranked_paper, first_paper, moved_paper, clock_paper}
use Rattle.huttaralu.specs.Says as says

-- a refusal with a number comes back from its fields
tells_refusal : (k : ℕ) (r : rules.Refusal) → 0 < r.number → telling (refusal_of (refusing k r)) (replicate k 0) ≡ refusing k r
tells_refusal k r h = simp (ne_eqb r.number 0 (λ e. absurd (omega (arith, e))), length-replicate {A = ℕ} k 0)

-- ---- each answer, by the verdict on the image or by how writing ends

check_told : (v : Verdict) → NamedVerdict v → checked_paper (counted_of (read.check_paper v)) ≡ read.check_paper v
check_told (taken xs) h = refl
check_told (refused r) h = tells_refusal read.values r h

read_told : (n : ℕ) (v : Verdict) → NamedVerdict v → checked_paper (counted_of (read.read_paper n v)) ≡ read.read_paper n v
read_told n (taken xs) h =
    either_way (λ (p : Paper). checked_paper (counted_of p) ≡ p) (ltb n (length xs))
    (tells_refusal read.values (refusal steps_too_short (length xs)) (omega arith))
    refl
read_told n (refused r) h = tells_refusal read.values r h

rank_told : (k : ℕ) (v : Verdict) → NamedVerdict v → ranked_paper (ranked_of (rank.rank_in k v)) ≡ rank.rank_in k v
rank_told k (taken xs) h =
    either_way (λ (p : Paper). ranked_paper (ranked_of p) ≡ p) (ltb k (length xs))
    refl
    (tells_refusal rank.values (refusal rank_too_large (length xs)) (omega arith))
rank_told k (refused r) h = tells_refusal rank.values r h

first_told : (x : ℕ) (v : Verdict) → NamedVerdict v → first_paper (first_of (first.first_in x v)) ≡ first.first_in x v
first_told x (taken xs) h = either_way (λ (p : Paper). first_paper (first_of p) ≡ p) (ltb (below xs x) (length xs)) refl refl
first_told x (refused r) h = tells_refusal first.values r h

-- an answer of a cursor
abbrev Moves : Paper → Type 0
Moves p = moved_paper (moved_of p) ≡ p

Moves_rank : (xs : List ℕ) (k : ℕ) (p : Paper) → Moves p → Moves (cursor.on_rank xs k p)
Moves_rank xs k p m = either_way Moves (ltb (length xs) k) (tells_refusal cursor.values (refusal no_such_cursor 0) (omega arith)) m

start_told : (v : Verdict) → NamedVerdict v → Moves (cursor.start_in v)
start_told (taken xs) h = refl
start_told (refused r) h = tells_refusal cursor.values r h

next_told : (k : ℕ) (v : Verdict) → NamedVerdict v → Moves (cursor.next_in k v)
next_told k (taken xs) h = Moves_rank xs k _ (either_way Moves (ltb k (length xs)) refl refl)
next_told k (refused r) h = tells_refusal cursor.values r h

skip_told : (k x : ℕ) (v : Verdict) → NamedVerdict v → Moves (cursor.skip_in k x v)
skip_told k x (taken xs) h = Moves_rank xs k _ refl
skip_told k x (refused r) h = tells_refusal cursor.values r h

-- how the writing of a list ends, where a refusal has a number
abbrev NamedOutcome : Outcome → Type 0
NamedOutcome (stopped r) = 0 < r.number
NamedOutcome (unplaced xs) = Unit {0}
NamedOutcome (placed xs) = Unit {0}

named_placing : (xs : List ℕ) (out : ℕ) → NamedOutcome (placing xs out)
named_placing xs out = either_way NamedOutcome (ltb out (length (image_for xs))) tt tt

named_write : (xs : List ℕ) (work out : ℕ) → NamedOutcome (write.outcome xs work out)
named_write xs work out = by (test_of xs) (test_named xs)
  where
    by : (t : Result ⊤ rules.Refusal) → NamedTest t → NamedOutcome (write.on_tests t xs work out)
    by (Err r) h = h
    by (Ok u) h = either_way NamedOutcome (ltb work (work_for (length xs))) (omega arith) (named_placing xs out)

named_result : (zs : List ℕ) (steps work out : ℕ) → NamedOutcome (of_result zs steps work out)
named_result zs steps work out = by (room_of (length zs) steps work) (room_named (length zs) steps work)
  where
    by : (m : Result ⊤ rules.Refusal) → NamedRoom m → NamedOutcome (on_room m zs out)
    by (Err r) h = h
    by (Ok u) h = named_placing zs out

named_pair : (op : Operation) (v w : Verdict) (steps work out : ℕ) → NamedVerdict v → NamedVerdict w
    → NamedOutcome (pair.on_verdicts op v w steps work out)
named_pair op (refused r) w steps work out h k = h
named_pair op (taken xs) (refused r) steps work out h k = k
named_pair op (taken xs) (taken ys) steps work out h k = named_result (result_of op xs ys) steps work out

Outcome_told : (o : Outcome) → NamedOutcome o → counted_paper (counted_of (answer o)) ≡ answer o
Outcome_told (stopped r) h = tells_refusal values r h
Outcome_told (unplaced xs) h = tells_refusal values (refusal output_too_short (length (image_for xs))) (omega arith)
Outcome_told (placed xs) h = refl

-- THE FIELDS TELL THE PROMISED ANSWER
pub check_tells : (image : List ℕ) → checked_paper (says.check image) ≡ read.check_promise image
check_tells image = check_told (verdict image) (named_verdict image)

pub read_tells : (image steps : List ℕ) → checked_paper (says.read image steps).0 ≡ read.read_promise image steps
read_tells image steps = read_told (length steps) (verdict image) (named_verdict image)

pub write_tells : (list work out : List ℕ)
    → counted_paper (says.write list work out).0 ≡ answer (write.outcome list (length work) (length out))
write_tells list work out =
    Outcome_told (write.outcome list (length work) (length out)) (named_write list (length work) (length out))

pub rank_tells : (image : List ℕ) (k : ℕ) → ranked_paper (says.rank image k) ≡ rank.promised image k
rank_tells image k = rank_told k (verdict image) (named_verdict image)

pub first_at_tells : (image : List ℕ) (bound : ℕ) → first_paper (says.first_at image bound) ≡ first.promised image bound
first_at_tells image bound = first_told bound (verdict image) (named_verdict image)

pub start_tells : (image : List ℕ) → moved_paper (says.start image) ≡ cursor.start_promise image
start_tells image = start_told (verdict image) (named_verdict image)

pub next_tells : (at : ℕ) (image : List ℕ) → moved_paper (says.next at image) ≡ cursor.next_promise at image
next_tells at image = next_told at (verdict image) (named_verdict image)

pub skip_tells : (at : ℕ) (image : List ℕ) (bound : ℕ) → moved_paper (says.skip at image bound) ≡ cursor.skip_promise at image bound
skip_tells at image bound = skip_told at bound (verdict image) (named_verdict image)

pub pair_tells : (op : Operation) (first second steps work out : List ℕ)
    → counted_paper (says.pair op first second steps work out).0
    ≡ answer (pair.outcome op first second (length steps) (length work) (length out))
pair_tells op first second steps work out =
    Outcome_told (pair.outcome op first second (length steps) (length work) (length out))
    (named_pair op (verdict first) (verdict second) (length steps) (length work) (length out) (named_verdict first) (named_verdict second))

pub clock_of_tells : (step : ℕ) → clock_paper (says.clock_of step) ≡ clock.promised step
clock_of_tells step =
    either_way (λ (p : Paper). clock_paper (clocked_of p) ≡ p) (ltb step (clock.day_steps * clock.year_days))
    refl
    (tells_refusal clock.values (refusal not_in_the_year 0) (omega arith))
