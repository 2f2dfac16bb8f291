-- How an operation ends, by what the images and the test of the room say, and what the promise then asks for.
-- Assumes nothing.
use mathlib.Core.Path.{◌≡◌, ap, ◌∙◌, sym, subst}
use mathlib.Core.List.{List, ◌++◌}
use Prim.Native.Nat.{ℕ}
use lib.ListN.{length, take, drop}
use Rattle.std.specs.Prelude.{Result, Err}
use Rattle.rules.specs.Refusals.{on_side}
use Rattle.rules.specs.declared.Refusal.{Refusal}
use Rattle.image.specs.Verdict.{Verdict, taken, refused, verdict}
use Rattle.image.specs.Taken.{steps_of, Taken}
use Rattle.write.specs.Outcome.{Outcome}
use Rattle.write.specs.declared.Counted.{Counted}
use Rattle.outcome.specs.Result.{room_of, Roomy, of_result, Leaves}
use Rattle.outcome.proofs.Results.{result_stopped}
use Rattle.outcome.proofs.Leaving.{Leaves_stopped, Leaves_stored}
use Rattle.pair_operation.specs.declared.Operation.{Operation}
use Rattle.pair_operation.specs.Result.{result_of}
use Rattle.pair.specs.Promise.{on_verdicts, outcome, Promise}

module _ (op : Operation) (first second : List ℕ) where
  -- ---- a refusal of one of the images

  module _ {steps work out : List ℕ} {r : Refusal} {a : Result Counted Refusal} where
    pub Promise-first : verdict first ≡ refused r → a ≡ Err (on_side 1 r) → Promise op first second steps work out a steps work out
    Promise-first v q =
        Leaves_stopped (on_side 1 r) (ap (λ (x : Verdict). on_verdicts op x (verdict second) (length steps) (length work) (length out)) v) q

    pub Promise-second : {xs : List ℕ} → verdict first ≡ taken xs → verdict second ≡ refused r → a ≡ Err (on_side 2 r)
        → Promise op first second steps work out a steps work out
    Promise-second {xs} u v q =
        Leaves_stopped (on_side 2 r)
        (ap (λ (x : Verdict). on_verdicts op x (verdict second) (length steps) (length work) (length out)) u
        ∙ ap (λ (x : Verdict). on_verdicts op (taken xs) x (length steps) (length work) (length out)) v)
        q

  -- ---- both images are accepted, and the result has `n` steps

  module _ (steps work out : List ℕ) (t : Taken first) (u : Taken second) (n : ℕ)
      (c : n ≡ length (result_of op (steps_of first) (steps_of second))) where
    outcome_result : outcome op first second (length steps) (length work) (length out)
        ≡ of_result (result_of op (steps_of first) (steps_of second)) (length steps) (length work) (length out)
    outcome_result =
        ap (λ (x : Verdict). on_verdicts op x (verdict second) (length steps) (length work) (length out)) t
        ∙ ap (λ (x : Verdict). on_verdicts op (taken (steps_of first)) x (length steps) (length work) (length out)) u

    -- there is no room for it
    pub Promise_refused : {r : Refusal} {a : Result Counted Refusal} → room_of n (length steps) (length work) ≡ Err r → a ≡ Err r
        → Promise op first second steps work out a steps work out
    Promise_refused {r} e q = Leaves_stopped r (outcome_result ∙ result_stopped (result_of op (steps_of first) (steps_of second)) _ _ _ c e) q

    -- its steps were stored and then written
    pub Promise_written : {steps' : List ℕ}
        → steps' ≡ result_of op (steps_of first) (steps_of second) ++ drop (length (result_of op (steps_of first) (steps_of second))) steps
        → Roomy n (length steps) (length work)
        → {a : Result Counted Refusal} {work' out' : List ℕ}
        → Leaves (of_result (take n steps') (length steps') (length work) (length out)) steps' work out a steps' work' out'
        → Promise op first second steps work out a steps' work' out'
    Promise_written {steps'} s r {a} {work'} {out'} w =
        subst (λ (o : Outcome). Leaves o steps work out a steps' work' out') (sym outcome_result)
        (Leaves_stored steps work out (result_of op (steps_of first) (steps_of second)) n c s r w)
