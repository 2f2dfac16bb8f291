-- When a promise accepts: a clock for a step of the year, everything that takes an image for an accepted one, writing for a list of
-- document 01 and room for its image. Nothing else is refused.
-- Assumes nothing.
use mathlib.Core.Path.{◌≡◌, refl, sym, subst}
use mathlib.Core.Logic.{◌↔◌}
use mathlib.Core.List.{List, [], ◌∷◌}
use Prim.Native.Nat.{ℕ, ◌+◌, ◌*◌, ◌≤◌, ◌<◌}
use native.Mathlib.Omega.{arith}
use borrow.Author.Tests.{lt-ltb, le-ltb}
use lib.Dec.{ltb}
use lib.ListN.{length, get_or, drop}
use Rattle.lists.specs.Choice.{pick}
use Rattle.lists.specs.Below.{below}
use Rattle.lists.specs.Bytes.{Bytes}
use Rattle.lists.proofs.Choice.{either_way, by_lt, pick_yes, pick_no}
use Rattle.rules.specs.Sizes.{work_for}
use Rattle.rules.specs.Refusals.{not_in_the_year, steps_too_short, rank_too_large, no_such_cursor, refusal}
use Rattle.rules.specs.declared.Refusal.{Refusal}
use Rattle.rules.specs.Paper.{Paper, accepting, refusing}
use Rattle.clock.specs.Clock as clock
use Rattle.image.specs.Verdict.{Verdict, taken, refused, verdict}
use Rattle.image.proofs.Accepted.{verdict-Accepted, Accepted_taken}
use Rattle.read.specs.Read as read
use Rattle.ask.specs.Rank as rank
use Rattle.ask.specs.First as first
use Rattle.ask.specs.Cursor as cursor
use Rattle.write_list.proofs.Tests.{by_tests}
use Rattle.write.specs.Written.{image_for}
use Rattle.write.specs.Outcome.{Outcome, stopped, answer}
use Rattle.write.specs.Promise as write
use Rattle.write.proofs.Outcomes.{outcome_refused, outcome_work, outcome_unplaced, outcome_placed}
use Rattle.outcome.specs.Result.{of_result}
use Rattle.outcome.proofs.Results.{result_placed, accepted_placed}
use Rattle.pair_operation.specs.declared.Operation.{Operation}
use Rattle.pair_operation.specs.Result.{result_of}
use Rattle.pair.specs.Promise as pair
use Rattle.demands.specs.Inputs.{Accepts, Image, ImageWhere, WriteRoom, PairRoom}

-- ---- by a test

-- a refusal does not accept
refuses : {X : Type 0} → ◌≡◌ {A = ℕ} 0 1 → X
refuses a = absurd (omega (arith, a))

-- what is accepted unless, and what only if, one number is below another
unless : (a b k : ℕ) (r : Refusal) (p : Paper) → Accepts p → Accepts (pick (ltb a b) (refusing k r) p) ↔ (b ≤ a)
unless a b k r p h = (
  λ g. by_lt a b (λ l. refuses (subst Accepts (pick_yes _ _ _ (lt-ltb a b l)) g)) (λ l. l),
  λ l. subst Accepts (sym (pick_no _ _ _ (le-ltb a b l))) h,
)

only_if : (a b k : ℕ) (r : Refusal) (p : Paper) → Accepts p → Accepts (pick (ltb a b) p (refusing k r)) ↔ (a < b)
only_if a b k r p h = (
  λ g. by_lt a b (λ l. l) (λ l. refuses (subst Accepts (pick_no _ _ _ (le-ltb a b l)) g)),
  λ l. subst Accepts (sym (pick_yes _ _ _ (lt-ltb a b l))) h,
)

pub clock_Accepts : (s : ℕ) → Accepts (clock.promised s) ↔ (s < clock.day_steps * clock.year_days)
clock_Accepts s = only_if s (clock.day_steps * clock.year_days) clock.values (refusal not_in_the_year 0) (clock.time_of s) refl

-- ---- by the verdict on an image

module _ {s : List ℕ} (w : Bytes s) where
  -- a promise that refuses what the verdict refuses accepts the images of the lists for which it accepts
  by_verdict : (paper : Verdict → Paper) → ((r : Refusal) → Accepts (paper (refused r)) → ⊥) → (Q : List ℕ → Type 0)
      → ((xs : List ℕ) → Accepts (paper (taken xs)) ↔ Q xs)
      → Accepts (paper (verdict s)) ↔ ImageWhere s Q
  by_verdict paper never Q q = (there (verdict s) refl, back)
    where
      there : (v : Verdict) → verdict s ≡ v → Accepts (paper v) → ImageWhere s Q
      there (taken xs) e a = (xs, (verdict-Accepted s xs w).0 e, (q xs).0 a)
      there (refused r) e a = absurd (never r a)

      back : ImageWhere s Q → Accepts (paper (verdict s))
      back (xs, a, c) = subst (λ (v : Verdict). Accepts (paper v)) (sym (Accepted_taken a)) ((q xs).1 c)

  -- and one that accepts whatever the verdict takes accepts every image
  by_Image : (paper : Verdict → Paper) → ((r : Refusal) → Accepts (paper (refused r)) → ⊥) → ((xs : List ℕ) → Accepts (paper (taken xs)))
      → Accepts (paper (verdict s)) ↔ Image s
  by_Image paper never always =
      let b = by_verdict paper never (λ xs. Unit {0}) (λ xs. (λ a. tt, λ u. always xs)) in
      (λ a. let i = b.0 a in (i.0, i.1), λ i. b.1 (i.0, i.1, tt))

  pub check_Accepts : Accepts (read.check_promise s) ↔ Image s
  check_Accepts = by_Image read.check_paper (λ r. refuses) (λ xs. refl)

  pub read-Accepts : (steps : List ℕ) → Accepts (read.read_promise s steps) ↔ ImageWhere s (λ xs. length xs ≤ length steps)
  read-Accepts steps =
      by_verdict (read.read_paper (length steps)) (λ r. refuses) (λ xs. length xs ≤ length steps)
      (λ xs. unless (length steps) (length xs) read.values (refusal steps_too_short (length xs)) (accepting (length xs ∷ [])) refl)

  pub rank-Accepts : (k : ℕ) → Accepts (rank.promised s k) ↔ ImageWhere s (λ xs. k < length xs)
  rank-Accepts k =
      by_verdict (rank.rank_in k) (λ r. refuses) (λ xs. k < length xs) (λ xs. only_if k (length xs) rank.values (refusal rank_too_large (length xs)) (accepting (get_or xs k 0 ∷ [])) refl)

  pub first-Accepts : (x : ℕ) → Accepts (first.promised s x) ↔ Image s
  first-Accepts x = by_Image (first.first_in x) (λ r. refuses)
      (λ xs. either_way Accepts (ltb (below xs x) (length xs)) refl refl)

  pub start_Accepts : Accepts (cursor.start_promise s) ↔ Image s
  start_Accepts = by_Image cursor.start_in (λ r. refuses) (λ xs. refl)

  pub next_Accepts : (k : ℕ) → Accepts (cursor.next_promise k s) ↔ ImageWhere s (λ xs. k ≤ length xs)
  next_Accepts k =
      by_verdict (cursor.next_in k) (λ r. refuses) (λ xs. k ≤ length xs)
      (λ xs. unless (length xs) k cursor.values (refusal no_such_cursor 0) _
      (either_way Accepts (ltb k (length xs)) refl refl))

  pub skip_Accepts : (k x : ℕ) → Accepts (cursor.skip_promise k s x) ↔ ImageWhere s (λ xs. k ≤ length xs)
  skip_Accepts k x =
      by_verdict (cursor.skip_in k x) (λ r. refuses) (λ xs. k ≤ length xs) (λ xs. unless (length xs) k cursor.values (refusal no_such_cursor 0) (cursor.standing (k + below (drop k xs) x)) refl)

-- ---- writing

module _ (xs : List ℕ) (work out : ℕ) where
  write_room : Accepts (answer (write.outcome xs work out)) → WriteRoom xs work out
  write_room a =
      by_tests xs (λ r e. stops (outcome_refused xs work out e))
      (λ l. by_lt work (work_for (length xs)) (λ h. stops (outcome_work xs work out l h))
      (λ r. by_lt out (length (image_for xs)) (λ h. refuses (at (outcome_unplaced xs work out l r h)))
      (λ h. record { listed = l; work_room = r; out_room = h })))
    where
      at : {o : Outcome} → write.outcome xs work out ≡ o → Accepts (answer o)
      at e = subst (λ (o : Outcome). Accepts (answer o)) e a

      stops : {X : Type 0} {r : Refusal} → write.outcome xs work out ≡ stopped r → X
      stops e = refuses (at e)

  pub write-Accepts : Accepts (answer (write.outcome xs work out)) ↔ WriteRoom xs work out
  write-Accepts = (
    write_room,
    λ r. subst (λ (o : Outcome). Accepts (answer o)) (sym (outcome_placed xs work out r.listed r.work_room r.out_room)) refl,
  )

-- ---- an operation

module _ (zs : List ℕ) (steps work out : ℕ) where
  result_room : Accepts (answer (of_result zs steps work out)) → PairRoom zs steps work out
  result_room a =
      let p = accepted_placed zs steps work out a in
      record { few = p.room.few; steps_room = p.room.steps_room; work_room = p.room.work_room; out_room = p.out_room }

  room_result : PairRoom zs steps work out → Accepts (answer (of_result zs steps work out))
  room_result r =
      subst (λ (o : Outcome). Accepts (answer o))
      (sym (result_placed zs steps work out (record { few = r.few; steps_room = r.steps_room; work_room = r.work_room }) r.out_room)) refl

pub pair-Accepts : (op : Operation) {one two : List ℕ} → Bytes one → Bytes two → (steps work out : ℕ)
    → Accepts (answer (pair.outcome op one two steps work out))
    ↔ ImageWhere one (λ xs. ImageWhere two (λ ys. PairRoom (result_of op xs ys) steps work out))
pair-Accepts op {one} {two} v w steps work out =
    by_verdict v (λ u. answer (pair.on_verdicts op u (verdict two) steps work out)) (λ r. refuses) _
    (λ xs.
    by_verdict w (λ u. answer (pair.on_verdicts op (taken xs) u steps work out)) (λ r. refuses) _
    (λ ys. (result_room (result_of op xs ys) steps work out, room_result (result_of op xs ys) steps work out)))
