-- The clock's promise decides its answer.
-- Assumes nothing.
use mathlib.Core.Path.{◌≡◌, sym, ap, ◌∙◌}
use Prim.Native.Nat.{ℕ}
use Rattle.rules.proofs.Paper.{paper_apart, paper_values, paper_refusal}
use Rattle.rules.specs.declared.Refusal.{Refusal}
use Rattle.clock.specs.Clock.{values, paper_of, promised}
use Rattle.clock.specs.declared.Time.{Time}
use lib.ListN.{get_or}
use Rattle.std.specs.Prelude.{Result, Ok, Err}

-- an answer is known by document 01's numbers
pub paper_one : (a b : Result Time Refusal) → paper_of a ≡ paper_of b → a ≡ b
paper_one (Ok t) (Ok u) e =
    let v = paper_values e in
    ap Ok (λ i. record { day = get_or (v i) 0 0; hour = get_or (v i) 1 0; minute = get_or (v i) 2 0 })
paper_one (Ok t) (Err r) e = paper_apart values e
paper_one (Err r) (Ok t) e = paper_apart values (sym e)
paper_one (Err r) (Err s) e = ap Err (paper_refusal values e)

-- TWO ANSWERS THAT THE PROMISE ALLOWS ARE EQUAL
pub clock_decides : (s : ℕ) (a b : Result Time Refusal) → paper_of a ≡ promised s → paper_of b ≡ promised s → a ≡ b
clock_decides s a b p q = paper_one a b (p ∙ sym q)
