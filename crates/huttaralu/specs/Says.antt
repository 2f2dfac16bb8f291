-- What each exported function leaves: its answer in fields, and with it every lent buffer afterwards. Each is the promise of the function
-- that it wraps, computed from what it was lent and nothing else.
use Rattle.std.specs.Prelude.{List, ℕ, length}
use Rattle.clock.specs.Clock as clocks
use Rattle.read.specs.Read as reads
use Rattle.write.specs.Outcome.{Outcome, answer, work_after, out_after}
use Rattle.write.specs.Promise as writes
use Rattle.ask.specs.Rank as ranks
use Rattle.ask.specs.First as firsts
use Rattle.ask.specs.Cursor as cursors
use Rattle.pair_operation.specs.declared.Operation.{Operation}
use Rattle.outcome.specs.Result.{steps_after}
use Rattle.pair.specs.Promise as pairs
use Rattle.answers.specs.declared.Counted.{Counted}
use Rattle.answers.specs.declared.Ranked.{Ranked}
use Rattle.answers.specs.declared.First.{First}
use Rattle.answers.specs.declared.Moved.{Moved}
use Rattle.answers.specs.declared.Clock.{Clock}
use Rattle.answers.specs.Fields.{counted_of, ranked_of, first_of, moved_of, clocked_of}

abbrev pub check : List ℕ → Counted
check image = counted_of (reads.check_promise image)

-- the answer, and the step buffer
abbrev pub read : List ℕ → List ℕ → Counted × List ℕ
read image steps = (counted_of (reads.read_promise image steps), reads.read_steps image steps)

-- the answer, the work area and the output
abbrev pub written : List ℕ → List ℕ → Outcome → Counted × List ℕ × List ℕ
written work out o = (counted_of (answer o), work_after work o, out_after out o)

abbrev pub write : List ℕ → List ℕ → List ℕ → Counted × List ℕ × List ℕ
write list work out = written work out (writes.outcome list (length work) (length out))

abbrev pub rank : List ℕ → ℕ → Ranked
rank image k = ranked_of (ranks.promised image k)

abbrev pub first_at : List ℕ → ℕ → First
first_at image bound = first_of (firsts.promised image bound)

abbrev pub start : List ℕ → Moved
start image = moved_of (cursors.start_promise image)

-- a cursor is its rank
abbrev pub next : ℕ → List ℕ → Moved
next at image = moved_of (cursors.next_promise at image)

abbrev pub skip : ℕ → List ℕ → ℕ → Moved
skip at image bound = moved_of (cursors.skip_promise at image bound)

-- the answer, the step buffer, the work area and the output
abbrev pub paired : List ℕ → List ℕ → List ℕ → Outcome → Counted × List ℕ × List ℕ × List ℕ
paired steps work out o = (counted_of (answer o), steps_after steps o, work_after work o, out_after out o)

abbrev pub pair : Operation → List ℕ → List ℕ → List ℕ → List ℕ → List ℕ → Counted × List ℕ × List ℕ × List ℕ
pair op first second steps work out =
    paired steps work out (pairs.outcome op first second (length steps) (length work) (length out))

abbrev pub clock_of : ℕ → Clock
clock_of step = clocked_of (clocks.promised step)
