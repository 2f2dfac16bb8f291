-- An answer is known by document 01's numbers: acceptance and refusal stay apart, and each is known by what it holds.
-- Assumes nothing.
use mathlib.Core.Path.{◌≡◌, ap}
use mathlib.Core.List.{List}
use Prim.Native.Nat.{ℕ}
use native.Mathlib.Omega.{arith}
use Rattle.rules.specs.declared.Refusal.{Refusal}
use Rattle.rules.specs.Paper.{Paper, accepting, refusing}

pub paper_apart : {X : Type 0} {vs : List ℕ} (k : ℕ) {r : Refusal} → accepting vs ≡ refusing k r → X
paper_apart k e = absurd (omega (arith, ap (λ (p : Paper). p.accepted) e))

pub paper_values : {vs ws : List ℕ} → accepting vs ≡ accepting ws → vs ≡ ws
paper_values e = ap (λ (p : Paper). p.values) e

pub paper_refusal : (k : ℕ) {r s : Refusal} → refusing k r ≡ refusing k s → r ≡ s
paper_refusal k e = λ i. record { number = (e i).number; side = (e i).side; place = (e i).place }
