-- The promise of writing decides the answer, and what the work area and the output then hold.
-- Assumes nothing.
use mathlib.Core.Path.{◌≡◌, sym, ap, ◌∙◌}
use mathlib.Core.List.{List}
use Prim.Native.Nat.{ℕ}
use lib.ListN.{get_or}
use Rattle.std.specs.Prelude.{Result, Ok, Err}
use Rattle.rules.proofs.Paper.{paper_apart, paper_values, paper_refusal}
use Rattle.rules.specs.declared.Refusal.{Refusal}
use Rattle.write.specs.Outcome.{values, paper_of}
use Rattle.write.specs.Promise.{Promise}
use Rattle.write.specs.declared.Counted.{Counted}

-- an answer is known by document 01's numbers
pub paper_one : (a b : Result Counted Refusal) → paper_of a ≡ paper_of b → a ≡ b
paper_one (Ok c) (Ok d) e = let v = paper_values e in λ i. Ok (record { steps = get_or (v i) 0 0; bytes = get_or (v i) 1 0 })
paper_one (Ok c) (Err r) e = paper_apart values e
paper_one (Err r) (Ok d) e = paper_apart values (sym e)
paper_one (Err r) (Err s) e = ap Err (paper_refusal values e)

-- TWO OUTCOMES THAT THE PROMISE ALLOWS ARE EQUAL
pub write-Decides : {xs work out : List ℕ} (a b : Result Counted Refusal) {v w p q : List ℕ} → Promise xs work out a v p → Promise xs work out b w q
    → (a ≡ b) × (v ≡ w) × (p ≡ q)
write-Decides a b f g =
    (paper_one a b (f.answers ∙ sym g.answers), f.works ∙ sym g.works, f.outputs ∙ sym g.outputs)
