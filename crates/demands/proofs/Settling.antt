-- Each promise settles each input: there is an outcome that it allows, by the cases of its definition, and no other.
-- Assumes nothing.
use mathlib.Core.Path.{◌≡◌, refl, subst}
use mathlib.Core.Bool.{Bool, true, false}
use mathlib.Core.List.{List}
use Prim.Native.Nat.{ℕ, ◌+◌, ◌*◌, ◌/◌, ◌%◌}
use lib.Dec.{ltb}
use lib.ListN.{length, get_or, drop}
use Rattle.std.specs.Prelude.{Result, Ok, Err}
use Rattle.lists.specs.Choice.{pick}
use Rattle.lists.specs.Below.{below}
use Rattle.rules.specs.Refusals.{not_in_the_year, steps_too_short, rank_too_large, no_such_cursor, output_too_short, refusal}
use Rattle.rules.specs.Paper.{Paper}
use Rattle.rules.specs.declared.Refusal.{Refusal}
use Rattle.clock.specs.Clock as clock
use Rattle.clock.proofs.Decides.{clock_decides}
use Rattle.clock.specs.declared.Time.{Time}
use Rattle.image.specs.Verdict.{Verdict, taken, refused, verdict}
use Rattle.read.specs.Read as read
use Rattle.read.proofs.Decides.{check-Decides, read-Decides}
use Rattle.ask.specs.declared.First.{First}
use Rattle.ask.specs.declared.First.TheVariants as firsts
use Rattle.ask.specs.declared.Next.TheVariants as nexts
use Rattle.ask.specs.Rank as rank
use Rattle.ask.specs.First as first
use Rattle.ask.specs.Cursor as cursor
use Rattle.ask.proofs.Decides.{rank-Decides, first_decides, start-Decides, next-Decides, skip-Decides}
use Rattle.ask.specs.declared.Next.{Next}
use Rattle.ask.specs.declared.Cursor.{Cursor}
use Rattle.write.specs.Written.{image_for}
use Rattle.write.specs.Outcome.{paper_of, Outcome, stopped, unplaced, placed, answer, work_after, out_after}
use Rattle.write.specs.Promise as write
use Rattle.write.proofs.Decides.{write-Decides}
use Rattle.write.specs.declared.Counted.{Counted}
use Rattle.outcome.specs.Result.{steps_after}
use Rattle.pair_operation.specs.declared.Operation.{Operation}
use Rattle.pair.specs.Promise as pair
use Rattle.pair.proofs.Decides.{pair-Decides}
use Rattle.demands.specs.Promises.{Settles, Clock, Check, Read, Rank, FirstAt, Start, Move, SkipTo, Write, Pair}

-- ---- an answer for each case of a definition

-- of two answers the one that a test chooses
choose : {R : Type 0} (paper : R → Paper) (b : Bool) (x y : R) → (r : R) × (paper r ≡ pick b (paper x) (paper y))
choose paper true x y = (x, refl)
choose paper false x y = (y, refl)

clocked : (s : ℕ) → (r : Result Time Refusal) × Clock s r
clocked s =
    choose clock.paper_of (ltb s (clock.day_steps * clock.year_days))
    (Ok (record { day = s / clock.day_steps + 1; hour = s % clock.day_steps / clock.hour_steps; minute = s % clock.hour_steps * clock.step_minutes }))
    (Err (refusal not_in_the_year 0))

checked : (v : Verdict) → (r : Result ℕ Refusal) × (read.paper_of r ≡ read.check_paper v)
checked (taken xs) = (Ok (length xs), refl)
checked (refused r) = (Err r, refl)

read_back : (n : ℕ) (v : Verdict) → (r : Result ℕ Refusal) × (read.paper_of r ≡ read.read_paper n v)
read_back n (taken xs) =
    choose read.paper_of (ltb n (length xs)) (Err (refusal steps_too_short (length xs))) (Ok (length xs))
read_back n (refused r) = (Err r, refl)

ranked : (k : ℕ) (v : Verdict) → (r : Result ℕ Refusal) × (rank.paper_of r ≡ rank.rank_in k v)
ranked k (taken xs) =
    choose rank.paper_of (ltb k (length xs)) (Ok (get_or xs k 0)) (Err (refusal rank_too_large (length xs)))
ranked k (refused r) = (Err r, refl)

found : (x : ℕ) (v : Verdict) → (r : First) × (first.paper_of r ≡ first.first_in x v)
found x (taken xs) =
    choose first.paper_of (ltb (below xs x) (length xs)) (firsts.Found (record { step = get_or xs (below xs x) 0; rank = below xs x })) firsts.Nothing
found x (refused r) = (firsts.Refused r, refl)

started : (v : Verdict) → (r : Result Cursor Refusal) × (cursor.placed_paper r ≡ cursor.start_in v)
started (taken xs) = (Ok (record { rank = 0 }), refl)
started (refused r) = (Err r, refl)

moved : (k : ℕ) (v : Verdict) → (r : Result Next Refusal) × (cursor.next_paper r ≡ cursor.next_in k v)
moved k (taken xs) = over (choose cursor.next_paper (ltb k (length xs))
    (Ok (nexts.Step (record { step = get_or xs k 0; cursor = record { rank = k + 1 } })))
    (Ok (nexts.End (record { rank = k }))))
  where
    over : {p : Paper} → (r : Result Next Refusal) × (cursor.next_paper r ≡ p) → (r : Result Next Refusal) × (cursor.next_paper r ≡ cursor.on_rank xs k p)
    over {p} (r, e) =
        subst (λ (q : Paper). (r : Result Next Refusal) × (cursor.next_paper r ≡ cursor.on_rank xs k q)) e
        (choose cursor.next_paper (ltb (length xs) k) (Err (refusal no_such_cursor 0)) r)
moved k (refused r) = (Err r, refl)

skipped : (k x : ℕ) (v : Verdict) → (r : Result Cursor Refusal) × (cursor.placed_paper r ≡ cursor.skip_in k x v)
skipped k x (taken xs) =
    choose cursor.placed_paper (ltb (length xs) k) (Err (refusal no_such_cursor 0)) (Ok (record { rank = k + below (drop k xs) x }))
skipped k x (refused r) = (Err r, refl)

ended : (o : Outcome) → (r : Result Counted Refusal) × (paper_of r ≡ answer o)
ended (stopped r) = (Err r, refl)
ended (unplaced xs) = (Err (refusal output_too_short (length (image_for xs))), refl)
ended (placed xs) = (Ok (record { steps = length xs; bytes = length (image_for xs) }), refl)

-- ---- and no two outcomes

pub Settles-Clock : Settles Clock
Settles-Clock = record { some = clocked; only = clock_decides }

pub Settles-Check : Settles Check
Settles-Check = record { some = λ s. checked (verdict s); only = check-Decides }

pub Settles-Read : Settles Read
Settles-Read = record { some = some; only = only }
  where
    some : (i : List ℕ × List ℕ) → (o : Result ℕ Refusal × List ℕ) × Read i o
    some (s, steps) = let r = read_back (length steps) (verdict s) in ((r.0, read.read_steps s steps), (r.1, refl))

    only : (i : List ℕ × List ℕ) (a b : Result ℕ Refusal × List ℕ) → Read i a → Read i b → a ≡ b
    only (s, steps) (a, after) (b, other) p q = let e = read-Decides s steps a b after other p q in λ i. (e.0 i, e.1 i)

pub Settles-Rank : Settles Rank
Settles-Rank = record { some = λ i. ranked i.1 (verdict i.0); only = λ i. rank-Decides i.0 i.1 }

pub Settles_first : Settles FirstAt
Settles_first = record { some = λ i. found i.1 (verdict i.0); only = λ i. first_decides i.0 i.1 }

pub Settles-Start : Settles Start
Settles-Start = record { some = λ s. started (verdict s); only = start-Decides }

pub Settles-next : Settles Move
Settles-next = record { some = λ i. moved i.0 (verdict i.1); only = λ i. next-Decides i.1 i.0 }

pub Settles-skip : Settles SkipTo
Settles-skip = record { some = λ i. skipped i.0 i.2 (verdict i.1); only = λ i. skip-Decides i.1 i.0 i.2 }

pub Settles-Write : Settles Write
Settles-Write = record { some = some; only = only }
  where
    some : (i : List ℕ × List ℕ × List ℕ) → (o : Result Counted Refusal × List ℕ × List ℕ) × Write i o
    some (xs, work, out) =
        let o = write.outcome xs (length work) (length out) in
        let r = ended o in
        ((r.0, work_after work o, out_after out o), record { answers = r.1; works = refl; outputs = refl })

    only : (i : List ℕ × List ℕ × List ℕ) (a b : Result Counted Refusal × List ℕ × List ℕ) → Write i a → Write i b → a ≡ b
    only (xs, work, out) (a, v, p) (b, w, q) f g = let e = write-Decides a b f g in λ i. (e.0 i, e.1 i, e.2 i)

pub Settles-Pair : Settles Pair
Settles-Pair = record { some = some; only = only }
  where
    In : Type 0
    In = Operation × List ℕ × List ℕ × List ℕ × List ℕ × List ℕ

    Out : Type 0
    Out = Result Counted Refusal × List ℕ × List ℕ × List ℕ

    some : (i : In) → (o : Out) × Pair i o
    some (op, one, two, steps, work, out) =
        let o = pair.outcome op one two (length steps) (length work) (length out) in
        let r = ended o in (
          (r.0, steps_after steps o, work_after work o, out_after out o),
          record { answers = r.1; stores = refl; works = refl; outputs = refl },
        )

    only : (i : In) (a b : Out) → Pair i a → Pair i b → a ≡ b
    only (op, one, two, steps, work, out) (a, s, v, p) (b, t, w, q) f g = let e = pair-Decides op one two a b f g in λ i. (e.0 i, e.1 i, e.2 i, e.3 i)
