-- Where an operation accepts, the bytes that it leaves at the front of the output are a link of a chain.
-- Assumes nothing.
use mathlib.Core.Path.{◌≡◌, refl, sym, ap, ◌∙◌, subst}
use mathlib.Core.List.{List}
use Prim.Native.Nat.{ℕ}
use lib.ListN.{length, get_or, take}
use lib.Seq.{take_at}
use Rattle.std.specs.Prelude.{Ok}
use Rattle.lists.specs.Bytes.{Bytes}
use Rattle.rules.specs.declared.Refusal.{Refusal}
use Rattle.rules.specs.Paper.{Paper}
use Rattle.rules.proofs.Paper.{paper_apart, paper_values}
use Rattle.image.specs.Verdict.{Verdict, taken, refused, verdict}
use Rattle.image.proofs.Accepted.{verdict-Accepted}
use Rattle.write.specs.Written.{Written, image_for}
use Rattle.write.specs.Outcome.{values, paper_of, Outcome, stopped, placed, answer, out_after}
use Rattle.write.proofs.Written.{Written_some}
use Rattle.outcome.specs.Result.{of_result}
use Rattle.outcome.proofs.Results.{accepted_placed}
use Rattle.pair_operation.specs.declared.Operation.{Operation}
use Rattle.pair_operation.specs.Result.{result_of}
use Rattle.pair.specs.Promise.{on_verdicts, outcome, Promise}
use Rattle.pair.specs.Chain.{Link}

-- a refusal does not accept
not_stopped : {X : Type 0} {n k : ℕ} {o : Outcome} {r : Refusal} → paper_of (Ok (record { steps = n; bytes = k })) ≡ answer o → o ≡ stopped r → X
not_stopped a e = paper_apart values (a ∙ ap answer e)

-- WHERE AN OPERATION ACCEPTS, WHAT IT LEAVES IS A LINK
module _ (op : Operation) (first second : List ℕ) {steps work out : List ℕ} {n k : ℕ} {steps' work' out' : List ℕ} (u : Bytes first) (v : Bytes second)
    (p : Promise op first second steps work out (Ok (record { steps = n; bytes = k })) steps' work' out') where
  placed_image : (zs : List ℕ) → outcome op first second (length steps) (length work) (length out) ≡ placed zs → take k out' ≡ image_for zs
  placed_image zs e =
      let b : k ≡ length (image_for zs) = ap (λ (l : List ℕ). get_or l 1 0) (paper_values (p.answers ∙ ap answer e)) in
      ap (λ (j : ℕ). take j out') b
      ∙ ap (take (length (image_for zs))) (p.outputs ∙ ap (out_after out) e)
      ∙ take_at (image_for zs) _ (length (image_for zs)) refl

  Link_of : (xs ys : List ℕ) → verdict first ≡ taken xs → verdict second ≡ taken ys → Link op first second (take k out')
  Link_of xs ys f s =
      let e : outcome op first second (length steps) (length work) (length out) ≡ of_result (result_of op xs ys) (length steps) (length work) (length out) =
      ap (λ (x : Verdict). on_verdicts op x (verdict second) (length steps) (length work) (length out)) f
      ∙ ap (λ (x : Verdict). on_verdicts op (taken xs) x (length steps) (length work) (length out)) s
      in
      let m = accepted_placed (result_of op xs ys) _ _ _ (sym (ap (λ (q : Paper). q.accepted) (p.answers ∙ ap answer e))) in
      record {
        first = xs;
        second = ys;
        first_accepted = (verdict-Accepted first xs u).0 f;
        second_accepted = (verdict-Accepted second ys v).0 s;
        few = m.room.few;
        written = subst (Written (result_of op xs ys)) (sym (placed_image (result_of op xs ys) (e ∙ m.is))) (Written_some (result_of op xs ys));
      }

  pub accepted_Link : Link op first second (take k out')
  accepted_Link = by (verdict first) (verdict second) refl refl
    where
      by : (x y : Verdict) → verdict first ≡ x → verdict second ≡ y → Link op first second (take k out')
      by (taken xs) (taken ys) f s = Link_of xs ys f s
      by (taken xs) (refused r) f s =
          not_stopped p.answers
          (ap (λ (x : Verdict). on_verdicts op x (verdict second) (length steps) (length work) (length out)) f
          ∙ ap (λ (x : Verdict). on_verdicts op (taken xs) x (length steps) (length work) (length out)) s)
      by (refused r) y f s =
          not_stopped p.answers (ap (λ (x : Verdict). on_verdicts op x (verdict second) (length steps) (length work) (length out)) f)
