-- What an input leads to: one outcome, acceptance exactly where document 01's table does not refuse, and buffers that a refusal leaves alone.
use Rattle.std.specs.Prelude.{◌≡◌, ◌↔◌, List, ℕ, ◌*◌, ◌≤◌, ◌<◌, length, Err}
use Rattle.lists.specs.Bytes.{Bytes}
use Rattle.rules.specs.Limits.{most_steps}
use Rattle.rules.specs.Sizes.{work_for}
use Rattle.rules.specs.Refusals.{output_too_short}
use Rattle.rules.specs.declared.Refusal.{Refusal}
use Rattle.rules.specs.Listed.{Listed}
use Rattle.rules.specs.Paper.{Paper}
use Rattle.clock.specs.Clock as clock
use Rattle.image.specs.Grammar.{Accepted}
use Rattle.read.specs.Read as read
use Rattle.ask.specs.Rank as rank
use Rattle.ask.specs.First as first
use Rattle.ask.specs.Cursor as cursor
use Rattle.write.specs.Written.{image_for}
use Rattle.write.specs.Outcome.{answer}
use Rattle.write.specs.Promise as write
use Rattle.pair_operation.specs.declared.Operation.{Operation}
use Rattle.pair_operation.specs.Result.{result_of}
use Rattle.pair.specs.Promise as pair
use Rattle.demands.specs.Promises.{Settles, Clock, Check, Read, Rank, FirstAt, Start, Move, SkipTo, Write, Pair}

-- each input has one outcome: the answer with all its numbers, and every lent buffer
pub record OneOutcome : Type 0 where
  pub clock : Settles Clock
  pub check : Settles Check
  pub read : Settles Read
  pub rank : Settles Rank
  pub first : Settles FirstAt
  pub start : Settles Start
  pub next : Settles Move
  pub skip : Settles SkipTo
  pub write : Settles Write
  pub pair : Settles Pair

-- an answer accepts
abbrev pub Accepts : Paper → Type 0
Accepts p = p.accepted ≡ 1

-- an accepted image, and one of a list that meets a condition
abbrev pub Image : List ℕ → Type 0
Image image = (xs : List ℕ) × Accepted image xs

abbrev pub ImageWhere : List ℕ → (List ℕ → Type 0) → Type 0
ImageWhere image Q = (xs : List ℕ) × Accepted image xs × Q xs

-- one of document 01's lists, and buffers that have room for writing it
pub record WriteRoom (xs : List ℕ) (work out : ℕ) : Type 0 where
  pub listed : Listed xs
  pub work_room : work_for (length xs) ≤ work
  pub out_room : length (image_for xs) ≤ out

-- a result with no more steps than a list may have, and buffers that have room for it
pub record PairRoom (zs : List ℕ) (steps work out : ℕ) : Type 0 where
  pub few : length zs ≤ most_steps
  pub steps_room : length zs ≤ steps
  pub work_room : work_for (length zs) ≤ work
  pub out_room : length (image_for zs) ≤ out

-- nothing else is refused: accepted are a step of the year, an accepted image, a list of document 01, where there is room
pub record AcceptedExactly : Type 0 where
  pub clock : (s : ℕ) → Accepts (clock.promised s) ↔ (s < clock.day_steps * clock.year_days)
  pub check : {s : List ℕ} → Bytes s → Accepts (read.check_promise s) ↔ Image s
  pub read : {s : List ℕ} → Bytes s → (steps : List ℕ) → Accepts (read.read_promise s steps) ↔ ImageWhere s (λ xs. length xs ≤ length steps)
  pub rank : {s : List ℕ} → Bytes s → (k : ℕ) → Accepts (rank.promised s k) ↔ ImageWhere s (λ xs. k < length xs)
  pub first : {s : List ℕ} → Bytes s → (x : ℕ) → Accepts (first.promised s x) ↔ Image s
  pub start : {s : List ℕ} → Bytes s → Accepts (cursor.start_promise s) ↔ Image s
  pub next : {s : List ℕ} → Bytes s → (k : ℕ) → Accepts (cursor.next_promise k s) ↔ ImageWhere s (λ xs. k ≤ length xs)
  pub skip : {s : List ℕ} → Bytes s → (k x : ℕ) → Accepts (cursor.skip_promise k s x) ↔ ImageWhere s (λ xs. k ≤ length xs)
  pub write : (xs : List ℕ) (work out : ℕ) → Accepts (answer (write.outcome xs work out)) ↔ WriteRoom xs work out
  pub pair : (op : Operation) {one two : List ℕ} → Bytes one → Bytes two → (steps work out : ℕ)
      → Accepts (answer (pair.outcome op one two steps work out))
      ↔ ImageWhere one (λ xs. ImageWhere two (λ ys. PairRoom (result_of op xs ys) steps work out))

-- "a refusal changes no buffer, except 15", which leaves the output alone
pub record BuffersKept : Type 0 where
  pub read : (s steps steps' : List ℕ) (r : Refusal) → Read (s, steps) (Err r, steps') → steps' ≡ steps
  pub write : (xs work out work' out' : List ℕ) (r : Refusal) → Write (xs, work, out) (Err r, work', out')
      → (out' ≡ out) × ((r.number ≡ output_too_short → ⊥) → work' ≡ work)
  pub pair : (op : Operation) (one two steps work out steps' work' out' : List ℕ) (r : Refusal)
      → Pair (op, one, two, steps, work, out) (Err r, steps', work', out')
      → (out' ≡ out) × ((r.number ≡ output_too_short → ⊥) → (steps' ≡ steps) × (work' ≡ work))
