-- What a check says whose refusal is then said of one side: it accepts what the check accepts, and refuses what the check refuses.
-- Assumes nothing.
use mathlib.Core.Path.{◌≡◌, refl, sym, ap, ◌∙◌}
use mathlib.Core.List.{List}
use Prim.Native.Nat.{ℕ}
use native.Mathlib.Omega.{arith}
use Rattle.std.specs.Prelude.{Result, Ok, Err, IsErrAnd, MatchResult}
use Rattle.std.proofs.lemmas.Result.{err_from_is_err_and}
use Rattle.rules.specs.declared.Refusal.{Refusal}
use Rattle.rules.specs.Refusals.{on_side}
use Rattle.image.specs.Taken.{Taken}
use Rattle.image.proofs.Taken.{taken_is}
use Rattle.read.specs.Read.{paper_of, check_promise}
use Rattle.read.proofs.Answers.{answer_Yes}

-- a step and a refusal are apart
apart : {X : Type 0} {n : ℕ} {q : Refusal} → ◌≡◌ {A = Result ℕ Refusal} (Ok n) (Err q) → X
apart e = let z : ◌≡◌ {A = ℕ} 0 1 = cc in absurd (omega arith)

module _ (Q : Refusal → Refusal → Type 0) where
  pub sided_Ok : (r : Result ℕ Refusal) {s : Result ℕ Refusal} {n : ℕ} → MatchResult r (λ x. s ≡ Ok x) (λ e. IsErrAnd s (Q e)) → s ≡ Ok n → r ≡ Ok n
  sided_Ok (Ok x) m e = sym m ∙ e
  sided_Ok (Err q) {s} m e = apart (sym e ∙ (err_from_is_err_and s m).1)

  pub sided_Err : (k : ℕ) (r : Result ℕ Refusal) {s : Result ℕ Refusal} {q : Refusal} → MatchResult r (λ x. s ≡ Ok x) (λ e. IsErrAnd s (Q e)) → s ≡ Err q
      → ((e p : Refusal) → Q e p → p ≡ on_side k e)
      → (e : Refusal) × (r ≡ Err e) × (q ≡ on_side k e)
  sided_Err k (Ok x) m e f = apart (sym m ∙ e)
  sided_Err k (Err t) {s} {q} m e f =
      let p = err_from_is_err_and s m in
      (t, refl, ap (λ (x : Result ℕ Refusal). value x q) (sym e ∙ p.1) ∙ f t p.0 p.2)
    where
      value : Result ℕ Refusal → Refusal → Refusal
      value (Ok x) q = q
      value (Err y) q = y

  -- an image that was accepted
  pub sided_Taken : (s : List ℕ) (r : Result ℕ Refusal) {t : Result ℕ Refusal} {n : ℕ} → paper_of r ≡ check_promise s
      → MatchResult r (λ x. t ≡ Ok x) (λ e. IsErrAnd t (Q e)) → t ≡ Ok n → Taken s
  sided_Taken s r a m e = let y = answer_Yes s a (sided_Ok r m e) in (taken_is s y.list y.is).0
