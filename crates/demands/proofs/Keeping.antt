-- A refusal leaves the buffers as they were, except 15, which leaves the output.
-- Assumes nothing.
use mathlib.Core.Path.{◌≡◌, refl, sym, ap, ◌∙◌}
use mathlib.Core.List.{List}
use Prim.Native.Nat.{ℕ}
use borrow.Author.Tests.{lt-ltb, le-ltb}
use lib.ListN.{length}
use Rattle.std.specs.Prelude.{Err}
use Rattle.lists.proofs.Choice.{by_lt, pick_yes, pick_no}
use Rattle.rules.specs.Refusals.{output_too_short}
use Rattle.rules.specs.declared.Refusal.{Refusal}
use Rattle.rules.specs.Paper.{Paper, refusing}
use Rattle.rules.proofs.Paper.{paper_apart}
use Rattle.image.specs.Verdict.{Verdict, taken, refused, verdict}
use Rattle.read.specs.Read as read
use Rattle.write.specs.Outcome.{values, Outcome, stopped, unplaced, placed, answer, work_after, out_after}
use Rattle.write.specs.Promise as write
use Rattle.outcome.specs.Result.{steps_after}
use Rattle.pair_operation.specs.declared.Operation.{Operation}
use Rattle.pair.specs.Promise as pair
use Rattle.demands.specs.Promises.{Read, Write, Pair}

pub read_keeps : (s steps steps' : List ℕ) (r : Refusal) → Read (s, steps) (Err r, steps') → steps' ≡ steps
read_keeps s steps steps' r (e, q) = q ∙ by (verdict s) e
  where
    by : (v : Verdict) → refusing read.values r ≡ read.read_paper (length steps) v → read.steps_after steps v ≡ steps
    by (taken xs) p =
        by_lt (length steps) (length xs) (λ h. pick_yes _ _ _ (lt-ltb (length steps) (length xs) h))
        (λ h. paper_apart read.values (sym (p ∙ pick_no _ _ _ (le-ltb (length steps) (length xs) h))))
    by (refused t) p = refl

pub write_keeps : (xs work out work' out' : List ℕ) (r : Refusal) → Write (xs, work, out) (Err r, work', out')
    → (out' ≡ out) × ((r.number ≡ output_too_short → ⊥) → work' ≡ work)
write_keeps xs work out work' out' r p =
    let k = by (write.outcome xs (length work) (length out)) p.answers in
    (p.outputs ∙ k.0, λ h. p.works ∙ k.1 h)
  where
    by : (o : Outcome) → refusing values r ≡ answer o
        → (out_after out o ≡ out) × ((r.number ≡ output_too_short → ⊥) → work_after work o ≡ work)
    by (stopped t) e = (refl, λ h. refl)
    by (unplaced zs) e = (refl, λ h. absurd (h (ap (λ (p : Paper). p.number) e)))
    by (placed zs) e = paper_apart values (sym e)

pub pair_keeps : (op : Operation) (one two steps work out steps' work' out' : List ℕ) (r : Refusal)
    → Pair (op, one, two, steps, work, out) (Err r, steps', work', out')
    → (out' ≡ out) × ((r.number ≡ output_too_short → ⊥) → (steps' ≡ steps) × (work' ≡ work))
pair_keeps op one two steps work out steps' work' out' r p =
    let k = by (pair.outcome op one two (length steps) (length work) (length out)) p.answers in
    (p.outputs ∙ k.0, λ h. (p.stores ∙ (k.1 h).0, p.works ∙ (k.1 h).1))
  where
    by : (o : Outcome) → refusing values r ≡ answer o
        → (out_after out o ≡ out) × ((r.number ≡ output_too_short → ⊥) → (steps_after steps o ≡ steps) × (work_after work o ≡ work))
    by (stopped t) e = (refl, λ h. (refl, refl))
    by (unplaced zs) e = (refl, λ h. absurd (h (ap (λ (p : Paper). p.number) e)))
    by (placed zs) e = paper_apart values (sym e)
