-- The promise of an operation on two images decides its answer and what every lent buffer then holds.
-- Assumes nothing.
use mathlib.Core.Path.{◌≡◌}
use mathlib.Core.List.{List}
use Prim.Native.Nat.{ℕ}
use Rattle.std.specs.Prelude.{Result}
use Rattle.outcome.proofs.Decides.{Leaves_decides}
use Rattle.pair_operation.specs.declared.Operation.{Operation}
use Rattle.pair.specs.Promise.{Promise}
use Rattle.write.specs.declared.Counted.{Counted}
use Rattle.rules.specs.declared.Refusal.{Refusal}

-- TWO OUTCOMES THAT THE PROMISE ALLOWS ARE EQUAL
pub pair-Decides : (op : Operation) (first second : List ℕ) {steps work out : List ℕ} (a b : Result Counted Refusal) {s t v w p q : List ℕ}
    → Promise op first second steps work out a s v p → Promise op first second steps work out b t w q
    → (a ≡ b) × (s ≡ t) × (v ≡ w) × (p ≡ q)
pair-Decides op first second a b x y = Leaves_decides a b x y
