-- THE ROUND TRIP: where writing accepts a list, it is one of document 01's, and what then stands at the front of the output is an image that
-- stands for it; reading that image back gives the list.
-- Assumes nothing.
use mathlib.Core.Path.{◌≡◌, refl, ap, ◌∙◌}
use mathlib.Core.List.{List, [], ◌∷◌, ◌++◌}
use Prim.Native.Nat.{ℕ, ◌≤◌}
use lib.ListN.{length, get_or, take, drop}
use lib.Seq.{take_at}
use borrow.Author.Tests.{le-ltb}
use Rattle.std.specs.Prelude.{Ok}
use Rattle.lists.proofs.Choice.{by_lt}
use Rattle.rules.specs.Sizes.{work_for}
use Rattle.rules.specs.declared.Refusal.{Refusal}
use Rattle.rules.specs.Listed.{Listed}
use Rattle.rules.specs.Paper.{accepting}
use Rattle.rules.proofs.Paper.{paper_apart, paper_values}
use Rattle.image.specs.Verdict.{taken, verdict}
use Rattle.read.specs.Read.{read_paper, read_promise, steps_after, read_steps}
use Rattle.write_list.proofs.Tests.{by_tests}
use Rattle.write.specs.Written.{Written, image_for}
use Rattle.write.specs.Outcome.{values, stopped, placed, answer, out_after}
use Rattle.write.specs.Promise.{outcome, Promise}
use Rattle.write.proofs.Written.{Written_some, written_taken}
use Rattle.write.proofs.Outcomes.{outcome_refused, outcome_work, outcome_unplaced, outcome_placed}

-- a list that was written in `s` bytes at the front of an output
pub record Placed (xs : List ℕ) (n s : ℕ) (out : List ℕ) : Type 0 where
  pub listed : Listed xs
  pub steps : n ≡ length xs
  pub written : Written xs (take s out)

module _ {xs work out : List ℕ} {n s : ℕ} {work' out' : List ℕ} (p : Promise xs work out (Ok (record { steps = n; bytes = s })) work' out') where
  refuses : {X : Type 0} {r : Refusal} → outcome xs (length work) (length out) ≡ stopped r → X
  refuses e = paper_apart values (p.answers ∙ ap answer e)

  listed : Listed xs
  listed = by_tests xs (λ r e. refuses (outcome_refused xs (length work) (length out) e)) (λ l. l)

  is_placed : outcome xs (length work) (length out) ≡ placed xs
  is_placed =
      by_lt (length work) (work_for (length xs)) (λ h. refuses (outcome_work xs (length work) (length out) listed h))
      (λ r. by_lt (length out) (length (image_for xs))
      (λ h. paper_apart values (p.answers ∙ ap answer (outcome_unplaced xs (length work) (length out) listed r h)))
      (λ h. outcome_placed xs (length work) (length out) listed r h))

  -- what acceptance says
  pub accepted_placed : Placed xs n s out'
  accepted_placed =
      let v = paper_values (p.answers ∙ ap answer is_placed) in
      let e : s ≡ length (image_for xs) = ap (λ (l : List ℕ). get_or l 1 0) v in
      let q : take s out' ≡ image_for xs =
      ap (λ (k : ℕ). take k out') e
      ∙ ap (take (length (image_for xs))) (p.outputs ∙ ap (out_after out) is_placed)
      ∙ take_at (image_for xs) _ (length (image_for xs)) refl
      in
      record {
        listed = listed;
        steps = ap (λ (l : List ℕ). get_or l 0 0) v;
        written = rw q (Written_some xs);
      }

  -- WHAT WAS WRITTEN STANDS FOR THE LIST
  pub round_trip : verdict (take s out') ≡ taken xs
  round_trip = written_taken accepted_placed.written listed

  -- READING IT BACK GIVES THE LIST: the steps go to the first places of a buffer that has room for them
  pub read_back : (buffer : List ℕ) → length xs ≤ length buffer
      → (read_promise (take s out') buffer ≡ accepting (length xs ∷ [])) × (read_steps (take s out') buffer ≡ xs ++ drop (length xs) buffer)
  read_back buffer h = (
    ap (read_paper (length buffer)) round_trip ∙ simp (le-ltb (length buffer) (length xs) h),
    ap (steps_after buffer) round_trip ∙ simp (le-ltb (length buffer) (length xs) h),
  )
