-- How writing ends, by the tests that lead there, and what the promise then asks for.
-- Assumes nothing.
use mathlib.Core.Path.{◌≡◌, refl, sym, ap, ◌∙◌}
use mathlib.Core.List.{List, ◌++◌}
use Prim.Native.Nat.{ℕ, ◌+◌, ◌^◌, ◌≤◌, ◌<◌}
use native.Mathlib.Omega.{arith}
use borrow.Author.Tests.{lt-ltb, le-ltb}
use lib.ListN.{length, take, drop, replicate}
use lib.Seq.{sets, length-take-le}
use Rattle.std.specs.Prelude.{Result, Ok, Err, ⊤}
use Rattle.lists.proofs.Stores.{sets_front}
use Rattle.rules.specs.Sizes.{number_size, work_for}
use Rattle.rules.specs.Refusals.{work_too_short, output_too_short, refusal}
use Rattle.rules.specs.declared.Refusal.{Refusal}
use Rattle.rules.specs.Listed.{Listed}
use Rattle.plan.specs.declared.Totals.{Totals}
use Rattle.plan.specs.Planned.{Planned}
use Rattle.write_list.specs.Tests.{test_of}
use Rattle.write_list.proofs.Tests.{Listed-Accepted}
use Rattle.write.specs.Written.{image_for}
use Rattle.write.specs.Inside.Blocks.{Marks}
use Rattle.write.specs.Outcome.{paper_of, Outcome, stopped, unplaced, placed, placing, answer, work_after, out_after}
use Rattle.write.specs.Promise.{on_tests, outcome, Promise}
use Rattle.write.proofs.Written.{length-image_for, image_fits}
use Rattle.write.specs.declared.Counted.{Counted}

-- ---- by the tests

module _ (xs : List ℕ) (work out : ℕ) where
  pub outcome_refused : {r : Refusal} → test_of xs ≡ Err r → outcome xs work out ≡ stopped r
  outcome_refused e = ap (λ (t : Result ⊤ Refusal). on_tests t xs work out) e

  -- A LIST OF DOCUMENT 01 IS REFUSED FOR WANT OF ROOM ALONE
  module _ (l : Listed xs) where
    outcome_listed : outcome xs work out ≡ on_tests (Ok tt) xs work out
    outcome_listed = ap (λ (t : Result ⊤ Refusal). on_tests t xs work out) (Listed-Accepted l)

    pub outcome_work : work < work_for (length xs) → outcome xs work out ≡ stopped (refusal work_too_short (work_for (length xs)))
    outcome_work h = outcome_listed ∙ rw (lt-ltb work (work_for (length xs)) h)

    -- with work enough, for want of room in the output
    pub outcome_roomy : work_for (length xs) ≤ work → outcome xs work out ≡ placing xs out
    outcome_roomy r = outcome_listed ∙ rw (le-ltb work (work_for (length xs)) r)

    pub outcome_unplaced : work_for (length xs) ≤ work → out < length (image_for xs) → outcome xs work out ≡ unplaced xs
    outcome_unplaced r h = outcome_roomy r ∙ rw (lt-ltb out (length (image_for xs)) h)

    pub outcome_placed : work_for (length xs) ≤ work → length (image_for xs) ≤ out → outcome xs work out ≡ placed xs
    outcome_placed r h = outcome_roomy r ∙ rw (le-ltb out (length (image_for xs)) h)

-- ---- what the promise asks for

module _ {xs work out : List ℕ} where
  Promise_by : (o : Outcome) {r : Result Counted Refusal} {work' out' : List ℕ} → outcome xs (length work) (length out) ≡ o
      → paper_of r ≡ answer o → work' ≡ work_after work o → out' ≡ out_after out o
      → Promise xs work out r work' out'
  Promise_by o e a w q =
      record {
        answers = a ∙ ap answer (sym e);
        works = w ∙ ap (work_after work) (sym e);
        outputs = q ∙ ap (out_after out) (sym e);
      }

  -- a refusal that changes nothing
  pub Promise_stopped : {a : Result Counted Refusal} {r s : Refusal} → a ≡ Err r → r ≡ s → outcome xs (length work) (length out) ≡ stopped s
      → Promise xs work out a work out
  Promise_stopped {s = s} q e o = Promise_by (stopped s) o (ap paper_of q ∙ ap (λ (t : Refusal). paper_of (Err t)) e) refl refl

-- ---- a list of document 01 whose best cut was planned in a work area that is long enough

module _ {xs work planned : List ℕ} {t : Totals} (p : Planned xs work planned t) where
  pub length_planned : number_size + number_size + t.bytes ≡ length (image_for xs)
  length_planned = omega (arith, p.bytes, length-image_for xs)

  module _ (l : Listed xs) where
    pub planned_fits : number_size + number_size + t.bytes < 2 ^ 32
    planned_fits = omega (arith, length_planned, image_fits xs l)

    module _ (r : work_for (length xs) ≤ length work) where
      pub planned_Marks : Marks xs planned
      planned_Marks = record { listed = l; room = omega (arith, p.same); marked = p.marked }

      -- and whose front was then filled with 0
      module _ {k : ℕ} {front : List ℕ} (e : k ≡ work_for (length xs)) (f₀ : front ≡ replicate (length (take k planned)) 0) (out : List ℕ) where
        cleared : front ++ drop k planned ≡ replicate (work_for (length xs)) 0 ++ drop (work_for (length xs)) work
        cleared =
            ap (λ (s : List ℕ). s ++ drop k planned) (f₀ ∙ ap (λ (n : ℕ). replicate n 0) (length-take-le k planned (omega (arith, p.same))))
            ∙ ap (λ (n : ℕ). replicate n 0 ++ drop n planned) e
            ∙ ap (λ (s : List ℕ). replicate (work_for (length xs)) 0 ++ s) p.rest

        pub Promise_unplaced : {a : Result Counted Refusal} {out' : List ℕ} → length out < number_size + number_size + t.bytes
            → a ≡ Err (refusal output_too_short (number_size + number_size + t.bytes))
            → out' ≡ out
            → Promise xs work out a (front ++ drop k planned) out'
        Promise_unplaced h f q =
            Promise_by (unplaced xs) (outcome_unplaced xs (length work) (length out) l r (omega (arith, length_planned)))
            (ap paper_of f ∙ ap (λ (n : ℕ). paper_of (Err (refusal output_too_short n))) length_planned) cleared q

        pub Promise_placed : {a : Result Counted Refusal} {out' : List ℕ} → number_size + number_size + t.bytes ≤ length out
            → a ≡ Ok (record { steps = length xs; bytes = number_size + number_size + t.bytes })
            → out' ≡ sets out 0 (image_for xs)
            → Promise xs work out a (front ++ drop k planned) out'
        Promise_placed h f q =
            Promise_by (placed xs) (outcome_placed xs (length work) (length out) l r (omega (arith, length_planned)))
            (ap paper_of f ∙ ap (λ (n : ℕ). paper_of (Ok (record { steps = length xs; bytes = n }))) length_planned) cleared
            (q ∙ sets_front out (image_for xs) (omega (arith, length_planned)))
