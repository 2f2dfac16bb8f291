-- What an end leaves: a refusal that changes nothing, and a result that was stored and then written.
-- Assumes nothing.
use mathlib.Core.Path.{◌≡◌, refl, sym, ap, ◌∙◌, subst}
use mathlib.Core.List.{List, ◌++◌}
use Prim.Native.Nat.{ℕ}
use native.Mathlib.Omega.{arith}
use lib.Dec.{ltb}
use lib.ListN.{length, take, drop, length-take, length-drop, length-append, take-append-drop}
use lib.Seq.{take_at}
use Rattle.std.specs.Prelude.{Result, Err}
use Rattle.lists.proofs.Choice.{either_way}
use Rattle.rules.specs.declared.Refusal.{Refusal}
use Rattle.rules.specs.Listed.{Listed}
use Rattle.write.specs.Written.{image_for}
use Rattle.write.specs.Outcome.{paper_of, Outcome, stopped, answer, work_after, out_after}
use Rattle.write.specs.Promise.{outcome, Promise}
use Rattle.write.proofs.Outcomes.{outcome_roomy}
use Rattle.write.specs.declared.Counted.{Counted}
use Rattle.outcome.specs.Result.{Roomy, of_result, steps_after, Leaves}
use Rattle.outcome.proofs.Results.{result_roomy}

-- A REFUSAL THAT CHANGES NOTHING
pub Leaves_stopped : {o : Outcome} {steps work out : List ℕ} (r : Refusal) {a : Result Counted Refusal} → o ≡ stopped r → a ≡ Err r
    → Leaves o steps work out a steps work out
Leaves_stopped {steps = steps} {work} {out} r e q =
    record {
      answers = ap paper_of q ∙ ap answer (sym e);
      stores = ap (steps_after steps) (sym e);
      works = ap (work_after work) (sym e);
      outputs = ap (out_after out) (sym e);
    }

-- a result for which there is room has its steps in front of the step buffer
after_Roomy : (zs steps : List ℕ) (work out : ℕ) → Roomy (length zs) (length steps) work
    → steps_after steps (of_result zs (length steps) work out) ≡ zs ++ drop (length zs) steps
after_Roomy zs steps work out r =
    ap (steps_after steps) (result_roomy zs (length steps) work out r)
    ∙ either_way (λ (o : Outcome). steps_after steps o ≡ zs ++ drop (length zs) steps) (ltb out (length (image_for zs))) refl refl

-- A RESULT THAT WAS WRITTEN WHERE IT STANDS, IN FRONT OF THE STEP BUFFER
pub Leaves_front : {steps work out : List ℕ} (n : ℕ) → Roomy n (length steps) (length work) → Listed (take n steps)
    → {a : Result Counted Refusal} {work' out' : List ℕ} → Promise (take n steps) work out a work' out'
    → Leaves (of_result (take n steps) (length steps) (length work) (length out)) steps work out a steps work' out'
Leaves_front {steps} {work} {out} n r l w =
    let zs : List ℕ = take n steps in
    let c : n ≡ length zs = omega (arith, length-take n steps, r.steps_room) in
    let m : Roomy (length zs) (length steps) (length work) = subst (λ (k : ℕ). Roomy k (length steps) (length work)) c r in
    let e : outcome zs (length work) (length out) ≡ of_result zs (length steps) (length work) (length out) =
    outcome_roomy zs _ _ l m.work_room ∙ sym (result_roomy zs _ _ _ m)
    in
    record {
      answers = w.answers ∙ ap answer e;
      stores =
          sym (take-append-drop n steps)
          ∙ ap (λ (k : ℕ). zs ++ drop k steps) c
          ∙ sym (after_Roomy zs steps (length work) (length out) m);
      works = w.works ∙ ap (work_after work) e;
      outputs = w.outputs ∙ ap (out_after out) e;
    }

-- A RESULT `zs` THAT WAS STORED THERE AND THEN WRITTEN
module _ (steps work out zs : List ℕ) (n : ℕ) (c : n ≡ length zs) {steps' : List ℕ} (s : steps' ≡ zs ++ drop (length zs) steps) where
  pub stored_front : take n steps' ≡ zs
  stored_front = ap (take n) s ∙ take_at zs _ n (sym c)

  module _ (r : Roomy n (length steps) (length work)) where
    length_stored : length steps' ≡ length steps
    length_stored =
        omega (arith, ap length s, length-append zs (drop (length zs) steps), length-drop (length zs) steps, r.steps_room)

    pub stored_Roomy : Roomy n (length steps') (length work)
    stored_Roomy = rw length_stored r

    pub Leaves_stored : {a : Result Counted Refusal} {work' out' : List ℕ}
        → Leaves (of_result (take n steps') (length steps') (length work) (length out)) steps' work out a steps' work' out'
        → Leaves (of_result zs (length steps) (length work) (length out)) steps work out a steps' work' out'
    Leaves_stored w =
        let e : of_result (take n steps') (length steps') (length work) (length out) ≡ of_result zs (length steps) (length work) (length out) =
        ap (λ (xs : List ℕ). of_result xs (length steps') (length work) (length out)) stored_front
        ∙ ap (λ (k : ℕ). of_result zs k (length work) (length out)) length_stored
        in
        record {
          answers = w.answers ∙ ap answer e;
          stores = s ∙ sym (after_Roomy zs steps (length work) (length out) (subst (λ (k : ℕ). Roomy k (length steps) (length work)) c r));
          works = w.works ∙ ap (work_after work) e;
          outputs = w.outputs ∙ ap (out_after out) e;
        }
