-- A refusal that a `?` hands on is the one that it met.
-- Assumes nothing.
use mathlib.Core.Path.{◌≡◌, ap, ◌∙◌}
use Rattle.std.specs.Prelude.{Result, Err, IsErrAnd}
use Rattle.std.proofs.lemmas.Result.{err_from_is_err_and}
use Rattle.rules.specs.declared.Refusal.{Refusal}

pub passed : {T : Type 0} {q : Refusal} (r : Result T Refusal) → IsErrAnd r (λ p. p ≡ q) → r ≡ Err q
passed r h = let p = err_from_is_err_and r h in p.1 ∙ ap Err p.2
