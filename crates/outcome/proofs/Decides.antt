-- What an end leaves is decided: the answer, and what every lent buffer then holds.
-- Assumes nothing.
use mathlib.Core.Path.{◌≡◌, sym, ◌∙◌}
use mathlib.Core.List.{List}
use Prim.Native.Nat.{ℕ}
use Rattle.std.specs.Prelude.{Result}
use Rattle.write.specs.Outcome.{Outcome}
use Rattle.write.proofs.Decides.{paper_one}
use Rattle.write.specs.declared.Counted.{Counted}
use Rattle.outcome.specs.Result.{Leaves}
use Rattle.rules.specs.declared.Refusal.{Refusal}

-- TWO THAT ONE END LEAVES ARE EQUAL
pub Leaves_decides : {o : Outcome} {steps work out : List ℕ} (a b : Result Counted Refusal) {s t v w p q : List ℕ}
    → Leaves o steps work out a s v p → Leaves o steps work out b t w q
    → (a ≡ b) × (s ≡ t) × (v ≡ w) × (p ≡ q)
Leaves_decides a b x y = (
  paper_one a b (x.answers ∙ sym y.answers),
  x.stores ∙ sym y.stores,
  x.works ∙ sym y.works,
  x.outputs ∙ sym y.outputs,
)
